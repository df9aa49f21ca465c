pub mod Container
pub mod Layout
pub mod Made
pub mod Parts
pub mod Put
pub mod Start
pub mod Values
pub mod Written
