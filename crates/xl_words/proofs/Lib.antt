pub mod PartLemmas
pub mod NumberLemmas
pub mod ListLemmas
pub mod SoFarLemmas
pub mod OptionLemmas
