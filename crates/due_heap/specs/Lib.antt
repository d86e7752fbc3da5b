pub mod Dues
pub mod Winners
pub mod Words
