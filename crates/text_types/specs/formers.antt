pub mod items
pub mod named
