-- The laws of this crate that others may cite.
pub use Rattle.snd_racking.proofs.Racks.{racked_first}
