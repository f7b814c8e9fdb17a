pub mod EffectLaws
pub mod HistoryLaws
