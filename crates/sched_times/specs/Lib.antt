pub mod Times
pub mod Present
pub mod Figures
pub mod Tallies
pub mod Example
