pub mod Blocks
pub mod Fixed
pub mod Formats
pub mod Marks
pub mod Public
pub mod Sought
