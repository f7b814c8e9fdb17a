pub mod Splits
mod EscapeLaws
mod Runs
mod KeyLaws
mod PathLaws
