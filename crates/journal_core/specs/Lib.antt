pub mod Parts
pub mod Histories
pub mod Books
pub mod ToolActions
