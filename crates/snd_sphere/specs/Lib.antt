pub mod Lines
pub mod Found
pub mod Layout
pub mod Values
pub mod Written
pub mod Container
