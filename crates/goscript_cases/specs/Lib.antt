pub mod Case
pub mod Answers
