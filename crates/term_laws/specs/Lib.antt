pub mod Term
pub mod RtdsTerm
pub mod RtdsExamples
pub mod CapTerm
pub mod CapExamples
