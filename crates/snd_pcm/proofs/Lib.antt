pub mod Narrowed
pub mod Ranges
pub mod RoundTrips
pub mod Series
