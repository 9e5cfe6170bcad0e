pub mod Appended
pub mod Edits
pub mod Headers
pub mod Shapes
pub mod Written
