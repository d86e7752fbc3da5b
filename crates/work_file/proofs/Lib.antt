pub mod OrderLemmas
pub mod CheckedLemmas
pub mod LastLemmas
pub mod LengthLemmas
