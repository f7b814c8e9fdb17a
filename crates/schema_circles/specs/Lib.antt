pub mod Fillings
pub mod Marked
pub mod Needs
