pub mod Bits
pub mod Affinity
pub mod Wanting
pub mod Coming
