pub mod AtRest
pub mod Opened
pub mod WithoutMemory
