pub mod Lines
pub mod Own
