pub mod Segments
pub mod Below
pub mod Digits
pub mod Floats
pub mod Wholes
pub mod Widths
mod Tables
pub mod MulawLemmas
pub mod AlawLemmas
