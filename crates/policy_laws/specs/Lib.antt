pub mod RunningUnits
pub mod TimerOrder
pub mod Holds
