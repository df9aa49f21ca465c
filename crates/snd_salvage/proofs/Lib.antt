pub mod Doing
pub mod Frames
pub mod Making
pub mod Numbers
