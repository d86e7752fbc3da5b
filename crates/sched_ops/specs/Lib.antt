pub mod Affinity
pub mod Seen
pub mod Conditions
pub mod Timers
pub mod WantedCores
pub mod Told
