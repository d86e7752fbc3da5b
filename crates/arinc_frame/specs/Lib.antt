pub mod Frames
pub mod WaitingUnits
pub mod ArincView
