pub mod Agreement
pub mod Lawful
