pub mod Policies
pub mod Sendings
