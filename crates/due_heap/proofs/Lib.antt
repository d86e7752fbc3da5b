pub mod Tree
pub mod Rise
pub mod Descent
pub mod IdSets
pub mod Told
