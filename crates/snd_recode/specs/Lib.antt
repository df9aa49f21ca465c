pub mod Factors
pub mod Recoded
pub mod Wider
