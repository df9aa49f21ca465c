pub mod Layout
pub mod Parts
pub mod Values
pub mod Written
pub mod Container
