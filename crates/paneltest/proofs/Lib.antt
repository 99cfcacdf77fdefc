pub mod Prints
pub mod SessionRuns
