pub mod Done
pub mod Shelves
