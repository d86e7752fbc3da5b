mod Within
mod Holds
pub mod Grows
mod Fills
