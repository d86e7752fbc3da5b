pub mod Homes
pub mod Items
pub mod Planned
