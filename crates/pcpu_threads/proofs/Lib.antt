pub mod Counting
pub mod Turning
pub mod Working
pub mod Serving
pub mod Crossing
pub mod Hearing
