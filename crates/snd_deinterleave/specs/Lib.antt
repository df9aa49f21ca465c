pub mod Among
pub mod Deinterleave
pub mod Making
pub mod Outputs
pub mod Passing
