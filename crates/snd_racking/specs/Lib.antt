pub mod Appending
pub mod Racked
