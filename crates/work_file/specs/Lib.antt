pub mod Line
pub mod Lines
pub mod Reading
pub mod Load
