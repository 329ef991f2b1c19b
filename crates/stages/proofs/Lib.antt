pub mod Restaged
pub mod Promises
pub mod Table
pub mod Answers
pub mod Tiers
pub mod Raises
pub mod Rounding
pub mod Working
