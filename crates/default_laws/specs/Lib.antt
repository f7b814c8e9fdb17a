pub mod Constants
pub mod Ranks
pub mod Settling
