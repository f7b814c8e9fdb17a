pub mod Conversion
pub mod Escapes
pub mod Joining
pub mod KeyOrder
pub mod NameOrder
pub mod Responses
pub mod ValueLaws
