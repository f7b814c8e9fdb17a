pub mod Paths
pub mod Fits
pub mod Types
pub mod Keys
pub mod Writing
pub mod Reading
pub mod Projection
