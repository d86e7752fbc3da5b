pub mod Growing
pub mod Queues
pub mod Room
pub mod Joining
