pub mod Guests
pub mod Parts
pub mod Seen
