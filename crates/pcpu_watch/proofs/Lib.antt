pub mod Counting
pub mod Looking
pub mod Resting
pub mod Reading
pub mod Watching
pub mod Crossing
