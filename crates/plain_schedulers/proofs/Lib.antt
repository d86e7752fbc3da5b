pub mod Richest
pub mod Deciding
