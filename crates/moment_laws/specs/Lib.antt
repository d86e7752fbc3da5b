pub mod Stretches
pub mod Turns
pub mod GoodDecisions
pub mod Credit2Turns
pub mod StretchEnds
pub mod Moments
pub mod Examples
