pub mod Clean
pub mod Given
