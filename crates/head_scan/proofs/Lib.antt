pub mod Counting
pub mod Finishes
pub mod Leaving
pub mod RequestHeads
pub mod Remains
pub mod ResponseHeads
pub mod Takes
