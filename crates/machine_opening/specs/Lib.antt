pub mod OpeningPool
pub mod OpenedPool
pub mod OpeningShelves
