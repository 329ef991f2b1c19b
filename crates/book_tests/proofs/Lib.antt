pub mod Laws
pub mod Joined
pub mod Books
pub mod Indexing
pub mod Scanning
