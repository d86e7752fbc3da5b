pub mod Checks
pub mod Visiting
pub mod Holding
