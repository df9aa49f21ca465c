-- The laws of this crate that others may cite.
pub use Rattle.snd_output.proofs.Appending.{asked_all, asked_before, asked_by, asked_none, asked_on, at_end_then, bad_ahead, count_fits, div_sum, each_whole, failed_later, frames_are, given_longer, left_later, left_unread, left_unwritten, longer_as, longer_none, longer_then, may_give, moved_none, moved_twice, never_changed, none_left, one_fits, read_failed, read_none, read_twice, room_fewer, room_then, whole_places, write_failed}
pub use Rattle.snd_output.proofs.Begun.{begun_is_making, first_is_making, new_head, new_says}
pub use Rattle.snd_output.proofs.Bytes.{closed_now, coded_data, coded_joined, fields_in_front}
pub use Rattle.snd_output.proofs.Carried.{SaysOf, carried_is_making, laws_of, says_of}
pub use Rattle.snd_output.proofs.Changing.{changed_as, changed_err, fault_only, if_changed, if_unchanged, never_is, unchanged_as, unchanged_err}
pub use Rattle.snd_output.proofs.Finished.{rule, sealed_is_made}
pub use Rattle.snd_output.proofs.Lengthened.{written_is_making}
pub use Rattle.snd_output.proofs.Likeness.{like_is, same_channels}
pub use Rattle.snd_output.proofs.MadeSounds.{frames_are as sound_frames_are}
pub use Rattle.snd_output.proofs.Numbers.{joined_groups}
pub use Rattle.snd_output.proofs.Ranges.{fits_width, width_fits}
pub use Rattle.snd_output.proofs.Passing.{changed_counted, coded_are_bytes, frames_size, numbers_counted, size_of as bytes_of_samples, some_form}
