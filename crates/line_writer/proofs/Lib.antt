pub mod Text
pub mod Gathering
pub mod Lines
