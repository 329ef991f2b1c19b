pub mod Copy
pub mod Outcome
pub mod Promises
pub mod Table
pub mod Answered
pub mod Records
