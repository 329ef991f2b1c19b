pub mod Round
pub mod Next
