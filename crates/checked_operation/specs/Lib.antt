pub mod Acceptance
pub mod Choice
