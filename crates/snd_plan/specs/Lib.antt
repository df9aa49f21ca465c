pub mod Operations
pub mod Plans
pub mod Windows
pub mod Disks
pub mod Images
pub mod Laws
