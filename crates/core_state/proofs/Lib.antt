pub mod Arming
pub mod ChangeLemmas
pub mod Counting
pub mod Leasts
pub mod Pending
pub mod Steps
