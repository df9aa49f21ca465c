pub mod Asking
pub mod Coded
pub mod Codes
pub mod Counts
pub mod Doing
pub mod Found
pub mod Gains
