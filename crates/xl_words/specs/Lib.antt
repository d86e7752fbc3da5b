pub mod Parts
pub mod Values
pub mod Options
pub mod Grammar
