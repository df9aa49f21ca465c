pub mod Laws
pub mod Measure
pub mod Meter
pub mod Meters
pub mod Names
