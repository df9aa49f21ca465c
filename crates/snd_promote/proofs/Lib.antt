pub mod Marked
pub mod Moments
pub mod Faults
pub mod Contents
pub mod Public
