-- The laws of this crate that others may cite.
pub use Rattle.snd_file.proofs.LeftSafe.{keeps_of, leaves_same, left_at_rest, unchanged}
