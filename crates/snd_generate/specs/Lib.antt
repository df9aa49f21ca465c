pub mod Edited
pub mod Generating
pub mod Numbers
pub mod Steps
