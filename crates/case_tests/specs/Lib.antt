pub mod Checked
pub mod Lots
pub mod Order
pub mod Pairs
