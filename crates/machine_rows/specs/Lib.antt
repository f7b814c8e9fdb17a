pub mod Values
pub mod Operations
pub mod Reading
pub mod Writing
pub mod Meanings
pub mod Dialogs
pub mod Queries
pub mod Mutations
