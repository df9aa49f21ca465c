pub mod Blocks
pub mod EveryKind
pub mod FixedSamples
mod Closings
mod Fronts
mod Heads
mod KindHeads
mod Laid
pub mod Marks
pub mod OfKinds
pub mod Public
pub mod Rooms
pub mod Sizes
pub mod Sources
pub mod Widths
pub mod LateKinds
pub mod WholeSizes
