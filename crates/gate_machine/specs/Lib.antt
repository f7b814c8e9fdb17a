pub mod Keys
pub mod Cells
pub mod Readings
pub mod Answers
pub mod Outputs
pub mod Machine
pub mod Runs
