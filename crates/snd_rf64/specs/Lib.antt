pub mod Layout
pub mod Parts
pub mod Put
pub mod Start
pub mod Values
pub mod Written
pub mod Container
