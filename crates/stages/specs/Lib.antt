pub mod Outcome
pub mod Restaged
pub mod Promises
pub mod Table
pub mod Answered
pub mod Raising
pub mod Rounds
