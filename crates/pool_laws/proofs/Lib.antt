pub mod Readiness
pub mod Settled
pub mod ActionOrder
