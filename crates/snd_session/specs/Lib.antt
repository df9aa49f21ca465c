pub mod Answered
pub mod Follows
pub mod Handled
pub mod Replied
pub mod Tapped
