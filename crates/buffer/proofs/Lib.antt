pub mod Settings
pub mod Draws
