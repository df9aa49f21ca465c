pub mod Blocks
pub mod Frames
pub mod Ima
pub mod Laws
pub mod States
pub mod Step
