pub mod Tickets
pub mod Answers
pub mod Endings
pub mod Closings
pub mod Results
pub mod Listings
