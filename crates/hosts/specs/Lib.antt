pub mod Grown
pub mod Keeping
