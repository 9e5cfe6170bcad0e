pub mod Noted
pub mod Runs
pub mod Told
