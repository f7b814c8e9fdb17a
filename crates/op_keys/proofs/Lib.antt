pub mod SentFolds
pub mod Numbers
pub mod FrontFolds
