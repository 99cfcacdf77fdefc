pub mod OwnLines
pub mod Owns
pub mod WellFormed
pub mod Lines
