pub mod Apart
pub mod Heads
pub mod Public
pub mod Steps
pub mod Taken
