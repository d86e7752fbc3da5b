pub mod KeptCores
pub mod Coming
pub mod NullView
