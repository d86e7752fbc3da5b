pub mod Pasts
pub mod Stays
pub mod Reports
pub mod Lines
pub mod Tallies
