pub mod Units
pub mod Marks
