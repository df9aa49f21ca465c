-- The laws of this crate that others may cite.
pub use Rattle.snd_block_writer.proofs.Decoded.{some_channel}
pub use Rattle.snd_block_writer.proofs.Filling.{is_filled}
pub use Rattle.snd_block_writer.proofs.Given.{one_new, some_numbers}
pub use Rattle.snd_block_writer.proofs.Kept.{all_are_kept, coded_are_bytes, coded_size, kept_is_read, whole_frames_are_kept}
pub use Rattle.snd_block_writer.proofs.Parameters.{are_blocks}
pub use Rattle.snd_block_writer.proofs.Partly.{has_back, over_has}
pub use Rattle.snd_block_writer.proofs.Putting.{none_put, puts_as}
pub use Rattle.snd_block_writer.proofs.Standing.{coded_more, coded_padded, filled_few, length-coded, length-whole, none_coded, padded, place_coded, stands_more}
