pub mod Entities
pub mod Results
pub mod Views
pub mod Ways
pub mod Roots
