pub mod Waiting
pub mod Whole
pub mod Marking
pub mod Taking
