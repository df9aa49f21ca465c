pub mod Public
pub mod ReadsBack
