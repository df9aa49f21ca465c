pub mod Filling
pub mod Import
pub mod Making
pub mod Source
