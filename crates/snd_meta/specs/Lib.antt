pub mod Text
pub mod Info
pub mod Slots
pub mod Cue
pub mod Broadcast
pub mod Fields
