pub mod Asking
pub mod Copying
pub mod Inputs
pub mod Looking
pub mod Opening
pub mod Rooms
pub mod Seeing
