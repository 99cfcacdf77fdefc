pub mod Tellings
pub mod EachCall
pub mod Drawn
pub mod AtTheDoor
