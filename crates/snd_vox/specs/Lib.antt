pub mod Laws
pub mod Vox
