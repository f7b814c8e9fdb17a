pub mod Fronts
pub mod Json
pub mod Members
pub mod Outcome
pub mod Refusal
pub mod Sorted
pub mod Text
pub mod Values
