pub mod Grows
pub mod SelectionLaws
pub mod DefinitionLaws
pub mod TextLaws
pub mod Sets
pub mod FrontLaws
