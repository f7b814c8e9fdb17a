pub mod Keys
pub mod Maps
pub mod History
pub mod Listing
pub mod Laws
