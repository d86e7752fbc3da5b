pub mod Queues
pub mod Order
pub mod Filters
pub mod Tables
pub mod WholeTables
