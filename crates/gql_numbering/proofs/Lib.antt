pub mod Induction
pub mod BeginningLaws
mod NumberedLaws
pub mod Growth
mod Places
mod Sound
pub mod DocumentLaws
mod Nested
mod TellingLaws
