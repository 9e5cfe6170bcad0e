pub mod Found
pub mod Misses
pub mod Opposing
pub mod Rest
pub mod Scans
pub mod Surveys
pub mod Walks
pub mod Weights
