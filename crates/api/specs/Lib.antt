pub mod Causes
pub mod Answers
pub mod Answered
pub mod Text
pub mod Parts
