pub mod Lists
mod MapLaws
mod Silence
mod SilentCommands
mod RunLaws
mod Readings
mod ClosedTickets
mod ClosingAnswers
