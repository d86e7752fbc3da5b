pub mod Ranges
pub mod Steps
pub mod Items
pub mod RtdsLemmas
