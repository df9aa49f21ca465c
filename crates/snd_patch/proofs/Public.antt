-- The laws of this crate that others may cite.
pub use Rattle.snd_patch.proofs.Behind.{closes_from_to, stable_start_closes}
pub use Rattle.snd_patch.proofs.Bytes.{mix_beside, over_beside, take_before}
pub use Rattle.snd_patch.proofs.Images.{shrinks_from_to}
pub use Rattle.snd_patch.proofs.Lists.{closed_same, closing_same, field_length, order_is_free, sealed_keeps, sealed_length, shrunk_keeps, shrunk_length}
pub use Rattle.snd_patch.proofs.Moments.{leaves_by, leaves_made, leaves_then, leaves_weaker}
pub use Rattle.snd_patch.proofs.Running.{closed_missing, still}
pub use Rattle.snd_patch.proofs.Updating.{told_between, told_mapped, updates_more, updates_then}
pub use Rattle.snd_patch.proofs.Wholes.{apart_back, put_new, then_new}
