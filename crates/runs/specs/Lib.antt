pub mod Runs
pub mod Drawn
pub mod AtTheDoor
