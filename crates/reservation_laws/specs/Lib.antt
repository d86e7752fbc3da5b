pub mod Reservations
pub mod Examples
pub mod Sleepers
