pub mod Feeds
pub mod Steps
pub mod Fronts
pub mod Taking
pub mod Law
pub mod Reading
pub mod Stops
pub mod Ends
