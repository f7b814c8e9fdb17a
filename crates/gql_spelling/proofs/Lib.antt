pub mod Lexing
pub mod Printable
pub mod Quotes
pub mod Texts
pub mod Words
