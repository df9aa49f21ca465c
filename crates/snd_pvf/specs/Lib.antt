pub mod Laws
pub mod Pvf
