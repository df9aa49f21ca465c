pub mod Making
pub mod Salvage
