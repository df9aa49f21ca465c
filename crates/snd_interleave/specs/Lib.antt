pub mod Asking
pub mod Beside
pub mod Channels
pub mod Held
pub mod Interleave
pub mod Opening
pub mod Reading
