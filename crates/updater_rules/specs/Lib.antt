pub mod Errors
pub mod Keys
pub mod Naming
