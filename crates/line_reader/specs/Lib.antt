pub mod Checked
pub mod Items
pub mod Marks
