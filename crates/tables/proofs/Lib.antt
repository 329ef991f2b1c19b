pub mod Laws
pub mod Reading
pub mod Standing
pub mod Links
