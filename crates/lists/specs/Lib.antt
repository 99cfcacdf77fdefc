pub mod Update
pub mod Words
pub mod Laws
