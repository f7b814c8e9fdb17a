pub mod Views
pub mod Defaults
