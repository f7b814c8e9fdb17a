pub mod JudgeLaws
pub mod TableLaws
