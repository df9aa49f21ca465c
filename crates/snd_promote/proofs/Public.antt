-- The laws of this crate, and of promoted files, that others may cite.
pub use Rattle.snd_ds64.proofs.Public.{IsInside, beside_size, both_behind, both_beside, both_first, both_length, front_there, length-new_front, length-new_size, new_front_bytes, new_size_bytes, pieces_inside, promoted_keeps}
pub use Rattle.snd_promote.proofs.Contents.{front_counted}
pub use Rattle.snd_promote.proofs.Faults.{early_start}
pub use Rattle.snd_promote.proofs.Marked.{front_sized, promoted_opens, promoting_beside, promoting_opens, reserved_head_says, same_closing, wave_is_told}
