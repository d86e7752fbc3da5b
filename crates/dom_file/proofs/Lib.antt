pub mod CheckedConfig
pub mod CheckedDomains
pub mod CheckedPools
pub mod Each
pub mod Growing
pub mod Lists
pub mod Passed
