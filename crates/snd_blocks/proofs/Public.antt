-- The laws of this crate that others may cite.
pub use Rattle.snd_blocks.proofs.BlockFrames.{count_frames, groups_joined, has_bad_part, no_bad_groups}
pub use Rattle.snd_blocks.proofs.Counted.{counted, frames_are_in_blocks}
