mod Codes
mod Loops
pub mod Public
pub mod Numbers
pub mod Ranges
