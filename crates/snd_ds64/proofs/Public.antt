-- The laws of this crate that others may cite.
pub use Rattle.snd_ds64.proofs.Fronts.{front_put, front_stays, length-new_front, length-new_size, size_is}
pub use Rattle.snd_ds64.proofs.Inside.{IsInside, pieces_inside}
pub use Rattle.snd_ds64.proofs.Kept.{are_there, beside_size, both, both_behind, both_beside, both_first, both_length, both_second, first_length, front_there, promoted_keeps}
pub use Rattle.snd_ds64.proofs.Opens.{opens_promoted, promoted_reads_back}
pub use Rattle.snd_ds64.proofs.Reservations.{fits_rf64, reservation_stands}
pub use Rattle.snd_ds64.proofs.Said.{closed_alike, mark_early, new_front_bytes, new_size_bytes, reserved_says, whole_stands}
pub use Rattle.snd_ds64.proofs.Ways.{all_old, in_one, promotes_from_to, promoting_is_whole}
