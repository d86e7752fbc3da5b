pub mod ReadyMoments
pub mod CoreLooks
pub mod Order
pub mod FirstEvents
pub mod Actors
