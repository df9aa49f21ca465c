pub mod Fronts
pub mod Reservations
pub mod Opens
pub mod Kept
pub mod Ways
pub mod Inside
pub mod Said
pub mod Public
