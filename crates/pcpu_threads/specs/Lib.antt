pub mod Ends
pub mod Workers
pub mod Crews
pub mod Hearing
