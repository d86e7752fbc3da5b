pub mod Moments
pub mod Looks
pub mod Scribes
pub mod Watcher
pub mod Crews
pub mod Seats
pub mod WatchedRun
