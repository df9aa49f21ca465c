pub mod Caching
pub mod Encoding
pub mod Given
pub mod Putting
pub mod Reading
pub mod UnderWay
pub mod Writing
