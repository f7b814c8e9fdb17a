pub mod Members
pub mod Frames
pub mod Errors
