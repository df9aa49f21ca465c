pub mod Apart
pub mod Carried
pub mod Carrying
