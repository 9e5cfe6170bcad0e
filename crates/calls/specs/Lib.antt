pub mod Answers
pub mod Called
