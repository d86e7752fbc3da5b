pub mod Cores
pub mod Fits
pub mod Marks
pub mod OpeningCores
