pub mod Boards
pub mod Counts
pub mod Sums
pub mod Totals
