pub mod EngineState
pub mod OrderedRun
