pub mod Members
pub mod Dispatches
pub mod Frames
pub mod Unread
