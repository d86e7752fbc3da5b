pub mod Faults
pub mod Puts
pub mod HeldBytes
pub mod Memory
