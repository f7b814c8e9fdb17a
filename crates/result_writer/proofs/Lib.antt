pub mod WriteLaws
pub mod WayLaws
