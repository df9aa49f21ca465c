pub mod Blocks
pub mod Decimal
pub mod Field
pub mod Laws
