pub mod Tables
pub mod Columns
