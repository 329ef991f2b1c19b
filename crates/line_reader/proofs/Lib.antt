pub mod Scanning
pub mod Taking
pub mod Noting
pub mod Reading
pub mod Deciding
