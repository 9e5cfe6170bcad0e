pub mod Images
pub mod Packed
pub mod Shown
