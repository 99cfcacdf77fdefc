pub mod Refusals
pub mod Tests
