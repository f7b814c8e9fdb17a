pub mod Journal
pub mod Opened
pub mod Opening
pub mod Reading
pub mod Steps
pub mod Told
