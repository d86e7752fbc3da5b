pub mod ShelfLemmas
pub mod FaultLemmas
pub mod PutLemmas
pub mod KnownLemmas
