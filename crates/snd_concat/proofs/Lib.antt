pub mod Doing
pub mod Gains
pub mod Joined
pub mod Making
pub mod Repeats
