pub mod Faults
pub mod Forms
pub mod Judgement
pub mod Keys
pub mod RootFields
pub mod Terms
pub mod Toml
