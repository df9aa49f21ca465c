pub mod Beside
pub mod Edited
pub mod Placed
pub mod Public
pub mod Ready
pub mod Turning
