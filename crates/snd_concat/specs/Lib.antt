pub mod Appending
pub mod Concat
pub mod Making
