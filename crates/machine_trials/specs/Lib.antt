pub mod Files
pub mod TrialSeats
