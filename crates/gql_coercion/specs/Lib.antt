pub mod Coerced
pub mod Settled
