pub mod Conflicts
pub mod Kept
pub mod Kin
pub mod Parts
pub mod Paths
pub mod Roots
pub mod Rows
pub mod Weights
