pub mod Finish
pub mod Call
