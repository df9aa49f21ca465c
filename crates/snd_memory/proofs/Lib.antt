pub mod AfterCall
pub mod ListedBytes
pub mod Places
