pub mod Fits
pub mod Bounds
pub mod Parts
pub mod Slices
pub mod Frames
pub mod Replenishments
