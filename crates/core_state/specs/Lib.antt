pub mod Ends
pub mod Firsts
pub mod CoreState
pub mod Seen
pub mod Counts
