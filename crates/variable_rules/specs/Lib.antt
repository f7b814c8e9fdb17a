pub mod Faults
pub mod Indexes
pub mod Places
pub mod Uses
