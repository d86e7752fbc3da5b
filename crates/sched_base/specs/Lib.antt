pub mod Names
pub mod Numbers
pub mod Credit2Numbers
pub mod RtdsNumbers
pub mod Units
pub mod CoreSets
pub mod Lists
pub mod Results
