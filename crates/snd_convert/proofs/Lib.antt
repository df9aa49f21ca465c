pub mod Asking
pub mod Behind
pub mod Doing
pub mod Filling
pub mod Making
