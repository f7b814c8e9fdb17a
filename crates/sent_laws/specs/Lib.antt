pub mod Laws
pub mod Fronted
