pub mod Possible
pub mod Schemas
pub mod Tables
