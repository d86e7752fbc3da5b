pub mod FitsLemmas
pub mod Growing
pub mod Replenished
