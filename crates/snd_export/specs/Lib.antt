pub mod Coding
pub mod Export
pub mod Making
