pub mod Escapes
pub mod Laws
pub mod Objects
pub mod Fields
