pub mod Seeing
pub mod Lowering
pub mod Interviews
pub mod Gathering
pub mod Sharing
