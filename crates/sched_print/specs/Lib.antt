pub mod Line
pub mod Ranges
pub mod Readers
pub mod Forms
pub mod Laws
pub mod Places
pub mod Lines
