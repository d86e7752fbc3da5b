pub mod Grows
pub mod Keeps
pub mod Homes
