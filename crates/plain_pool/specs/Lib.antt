pub mod Decisions
pub mod Looks
pub mod Pauses
pub mod Ready
pub mod Records
pub mod Rows
pub mod Wakes
