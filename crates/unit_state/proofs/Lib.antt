pub mod GuestLemmas
pub mod Members
pub mod PlaceLemmas
pub mod SleeperLemmas
