pub mod Promoted
pub mod Moments
pub mod Laws
