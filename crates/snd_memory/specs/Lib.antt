pub mod Listed
pub mod Memory
pub mod MemoryShelf
pub mod MemoryStreams
pub mod Mixed
pub mod Past
pub mod Steady
