pub mod Bytes
pub mod Device
pub mod Laws
pub mod Runs
pub mod Shelf
pub mod Shelves
pub mod State
pub mod Streams
