pub mod Sized
pub mod Parts
pub mod RoundTrip
pub mod Puts
pub mod HeaderForm
pub mod ReadBack
