pub mod Defaults
pub mod Doubled
pub mod Empty
pub mod Fits
pub mod Repetitions
pub mod Seen
