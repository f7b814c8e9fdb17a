pub mod Parsing
pub mod Names
pub mod Literals
pub mod Selections
pub mod Executables
pub mod TypeSystems
pub mod Documents
