pub mod Places
pub mod Cleaning
pub mod Testing
pub mod Composing
