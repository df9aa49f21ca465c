pub mod Answered
pub mod Codecs
pub mod Formats
pub mod Frames
pub mod Public
pub mod Replaced
pub mod RoundTrips
pub mod StatedFormats
