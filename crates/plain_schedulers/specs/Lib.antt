pub mod Tells
pub mod Parameters
pub mod WaitingUnits
