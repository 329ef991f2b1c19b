pub mod LowestDigit
pub mod Slots
