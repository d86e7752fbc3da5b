pub mod Kept
pub mod Passing
pub mod Performing
pub mod Beginning
pub mod Clock
pub mod Quiet
pub mod OrderedLemmas
