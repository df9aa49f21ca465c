-- The laws of this crate that others may cite.
pub use Rattle.snd_search.proofs.Sought.{plain_bytes, whole_fits}
