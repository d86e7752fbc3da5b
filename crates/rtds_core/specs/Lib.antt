pub mod Alarms
pub mod Best
pub mod RtdsParts
pub mod Masks
pub mod RtdsView
pub mod WantedCores
