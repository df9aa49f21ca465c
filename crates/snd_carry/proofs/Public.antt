-- The laws of this crate that others may cite.
pub use Rattle.snd_carry.proofs.Apart.{bodies_fit, carried_fit}
pub use Rattle.snd_carry.proofs.Heads.{as_many, put_behind, put_last}
pub use Rattle.snd_carry.proofs.Steps.{added_is, made_none}
