pub mod OpeningPool
