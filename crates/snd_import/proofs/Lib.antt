pub mod Carried
pub mod Doing
pub mod Gained
pub mod Halves
pub mod Heads
pub mod Pieces
