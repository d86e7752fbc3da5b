pub mod Same
pub mod EntryVerdicts
pub mod Checking
pub mod ReachedState
pub mod Lines
pub mod ScheduleVerdict
pub mod VerdictLaws
pub mod VerdictText
