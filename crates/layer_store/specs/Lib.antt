pub mod Layers
pub mod Bases
pub mod Stores
pub mod Rows
pub mod Laws
