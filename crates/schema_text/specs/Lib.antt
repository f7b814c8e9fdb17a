pub mod Depth
pub mod Extensions
pub mod Texts
