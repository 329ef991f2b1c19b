pub mod Laws
pub mod Next
pub mod Due
pub mod Visits
pub mod Rounds
pub mod Listing
pub mod Along
pub mod Turns
