pub mod Ranges
pub mod Fits
pub mod Budgets
pub mod Records
pub mod Counts
