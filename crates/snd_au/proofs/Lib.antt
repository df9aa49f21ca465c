pub mod Encodings
pub mod Opens
pub mod Kept
pub mod Made
pub mod Joined
