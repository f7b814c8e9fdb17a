pub mod Puts
pub mod StageLaws
