pub mod Bytes
pub mod Carried
pub mod Noted
pub mod Read
pub mod Way
