mod Parameters
mod Places
mod Kept
mod ReadSpans
mod Checked
pub mod BlockFrames
pub mod Counted
pub mod Fetches
pub mod Public
