pub mod Chunks
pub mod Framing
pub mod Heads
pub mod Message
pub mod Requests
pub mod Texts
