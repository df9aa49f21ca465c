pub mod Groups
pub mod Laws
pub mod Pcm
pub mod Width
