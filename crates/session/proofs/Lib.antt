pub mod Emits
pub mod Fields
pub mod Runs
pub mod Signs
pub mod Unique
