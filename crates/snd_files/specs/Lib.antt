pub mod File
pub mod Folder
