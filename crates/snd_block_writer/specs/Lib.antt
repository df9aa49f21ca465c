pub mod Calls
pub mod Coded
pub mod Laws
pub mod Puts
pub mod Writing
