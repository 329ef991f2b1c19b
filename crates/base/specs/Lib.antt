pub mod Lists
pub mod Search
pub mod Below
pub mod Words
pub mod Bits
