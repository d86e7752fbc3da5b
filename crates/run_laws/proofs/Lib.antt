mod Named
mod Awaits
mod Rows
mod Moments
mod First
pub mod Grows
pub mod Ordered
