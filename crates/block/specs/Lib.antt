pub mod Block
pub mod OnBlock
pub mod Kept
