pub mod Four
pub mod Lanes
pub mod Laws
pub mod Microsoft
pub mod States
