pub mod Clear
pub mod Laws
pub mod Searches
pub mod Walks
