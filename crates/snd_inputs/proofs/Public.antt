-- The laws of this crate that others may cite.
pub use Rattle.snd_inputs.proofs.Answering.{does_so, done_same, refused_as}
pub use Rattle.snd_inputs.proofs.Asking.{asks_beside, asks_less, asks_looks, asks_next, asks_none, asks_then, asks_to_copy, asks_whole, both_then, each_front, each_less, each_then, one_more}
pub use Rattle.snd_inputs.proofs.Begun.{IsBegun, begun_as, begun_at_end, begun_room}
pub use Rattle.snd_inputs.proofs.Between.{between_changes, between_files, changes_after}
pub use Rattle.snd_inputs.proofs.Copying.{all_ahead, copies_none, copies_then, counts_appended, still_works}
pub use Rattle.snd_inputs.proofs.Held.{held_beside, held_counts, held_done, held_one, only_read, still_in}
pub use Rattle.snd_inputs.proofs.Lists.{bad_first, bad_none, input_at, length-inputs, none_bad, opened_same, same_inputs}
pub use Rattle.snd_inputs.proofs.Reading.{reads_changes, reads_none, reads_then}
pub use Rattle.snd_inputs.proofs.Rooms.{exceeds_fewer, has_room}
pub use Rattle.snd_inputs.proofs.Seen.{read_as}
pub use Rattle.snd_inputs.proofs.Told.{still_told, told_as}
pub use Rattle.snd_inputs.proofs.Weighing.{bytes_within, whole_within}
