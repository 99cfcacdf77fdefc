pub mod SameBytes
pub mod Longer
pub mod Growing
pub mod OlderRead
pub mod KeptBack
pub mod Determined
