pub mod Market
pub mod Rule
pub mod Fares
pub mod Profiles
pub mod Promises
pub mod Stages
