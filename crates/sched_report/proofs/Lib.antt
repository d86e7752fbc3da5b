pub mod Folds
mod Sums
mod Bounds
mod InOrder
pub mod Grows
mod Steps
mod Keeps
pub mod Tells
