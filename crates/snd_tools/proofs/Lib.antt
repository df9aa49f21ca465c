pub mod Counts
pub mod Public
pub mod Left
pub mod Names
