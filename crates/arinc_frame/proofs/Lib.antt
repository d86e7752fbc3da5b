pub mod Windows
pub mod Deciding
pub mod Ready
