pub mod Types
pub mod Members
pub mod Heights
