pub mod Cache
pub mod Calls
pub mod Fetching
pub mod Four
pub mod Frames
pub mod Sound
pub mod Spans
