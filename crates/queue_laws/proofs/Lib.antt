pub mod Arrivals
pub mod Removed
pub mod Keys
pub mod Scan
pub mod Once
