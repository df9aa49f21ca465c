pub mod Coupled
pub mod Repeated
pub mod Runs
pub mod Stating
pub mod Together
