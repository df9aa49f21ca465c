-- The laws of this crate that others may cite.
pub use Rattle.snd_recode.proofs.Numbers.{all_same_width}
pub use Rattle.snd_recode.proofs.Ranges.{recoded_fit}
