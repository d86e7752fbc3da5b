pub mod Example
pub mod Counters
pub mod Visits
pub mod Holders
