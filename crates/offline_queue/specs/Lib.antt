pub mod Keeper
pub mod Offers
pub mod Stage
