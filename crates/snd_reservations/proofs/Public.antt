-- The laws of this crate that others may cite.
pub use Rattle.snd_reservations.proofs.Beside.{promoted_frames, promoted_length}
pub use Rattle.snd_reservations.proofs.Edited.{promoted_is_bytes, promoted_is_edited, promoted_keeps_chunks, promoted_reads_back, promoted_rests, promoted_sound}
pub use Rattle.snd_reservations.proofs.Placed.{HasPlace, place_is}
pub use Rattle.snd_reservations.proofs.Turning.{promoted_is_safe}
