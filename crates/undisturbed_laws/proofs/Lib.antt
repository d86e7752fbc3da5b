pub mod Places
pub mod Records
pub mod Steps
pub mod Opened
pub mod Runs
pub mod Units
