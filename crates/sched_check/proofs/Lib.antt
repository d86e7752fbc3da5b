pub mod TakenLemmas
pub mod SameLemmas
pub mod Newlines
pub mod NoRun
pub mod SoFarLemmas
pub mod OneVerdict
