pub mod Segment
pub mod Mulaw
pub mod Alaw
