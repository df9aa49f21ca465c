pub mod Asking
pub mod Doing
pub mod Filling
pub mod Lists
pub mod Named
pub mod Sizes
