pub mod Images
pub mod Laws
pub mod Sealed
pub mod Steps
