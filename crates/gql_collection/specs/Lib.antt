pub mod Keys
pub mod States
