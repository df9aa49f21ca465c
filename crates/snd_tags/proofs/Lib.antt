pub mod Cases
pub mod Composed
pub mod Searches
