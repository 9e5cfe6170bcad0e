pub mod Answers
pub mod Deciding
pub mod Making
pub mod Messages
pub mod Rules
pub mod Texts
