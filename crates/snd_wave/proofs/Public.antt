-- The laws of this crate that others may cite.
pub use Rattle.snd_wave.proofs.Agreements.{outside}
pub use Rattle.snd_wave.proofs.Changed.{head_laid, plain_may}
pub use Rattle.snd_wave.proofs.Contained.{keeps_laws}
pub use Rattle.snd_wave.proofs.Counted.{out_of_fields}
pub use Rattle.snd_wave.proofs.HeadValues.{three}
pub use Rattle.snd_wave.proofs.HeadsOfBytes.{format_is}
pub use Rattle.snd_wave.proofs.Images.{in_field}
pub use Rattle.snd_wave.proofs.KeptHeads.{keeps_head_laws, piece_laws}
pub use Rattle.snd_wave.proofs.KeptPieces.{pieces_kept}
pub use Rattle.snd_wave.proofs.LateFiles.{late_reads_back}
pub use Rattle.snd_wave.proofs.Made.{counted, no_bytes_yet, reserved_head_reads_back}
pub use Rattle.snd_wave.proofs.NewHeads.{format_few, format_size, no_bytes, not_data}
pub use Rattle.snd_wave.proofs.PieceBodies.{body_bytes, both_fit}
pub use Rattle.snd_wave.proofs.PlainShapes.{plain_is}
pub use Rattle.snd_wave.proofs.Planning.{new_are, new_few}
pub use Rattle.snd_wave.proofs.Putting.{reserved_stand, small}
pub use Rattle.snd_wave.proofs.Relaying.{as_many, bytes_few, chunks-joined, length-joined}
pub use Rattle.snd_wave.proofs.Shapes.{blocks_have_bytes, counted_bytes, pieces_end}
pub use Rattle.snd_wave.proofs.Splits.{Closes, IsSplit, can_change, new_head, new_size}
pub use Rattle.snd_wave.proofs.Starts.{moves, stays}
