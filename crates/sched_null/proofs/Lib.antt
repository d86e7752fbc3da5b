pub mod Keeping
pub mod Choosing
pub mod Coming
