pub mod Keys
pub mod Places
pub mod Domains
pub mod Choice
pub mod Timing
pub mod Credit2State
pub mod Room
pub mod Whole
