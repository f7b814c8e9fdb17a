pub mod Words
pub mod Files
pub mod Lines
pub mod Progress
pub mod Stopped
pub mod Run
