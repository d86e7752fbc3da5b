pub mod Acts
pub mod CarriedPlans
pub mod MadePools
pub mod DomainMoves
pub mod Stalls
