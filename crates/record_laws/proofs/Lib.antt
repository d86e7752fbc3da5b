pub mod Changes
pub mod Credit2Seen
pub mod Charges
pub mod RtdsSeen
pub mod Best
pub mod Orders
