pub mod Chained
pub mod DrainLaws
pub mod ExchangeLaws
pub mod Lines
pub mod Transcripts
pub mod TurnLaws
pub mod Walks
