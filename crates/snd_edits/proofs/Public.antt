-- The laws of this crate that others may cite.
pub use Rattle.snd_edits.proofs.BlockBytes.{few_numbers, most_read}
pub use Rattle.snd_edits.proofs.BytesRead.{bytes_asked, bytes_counted, count_numbers, frames_ahead, frames_in_front, good_bytes, numbers_are_whole}
pub use Rattle.snd_edits.proofs.CutFrames.{closed_free, cut_decoded, may_count_fewer, off_counted, off_decoded}
pub use Rattle.snd_edits.proofs.EditedFiles.{counted_rule, first_keeps, keeps_beside, longer_closed, now_decoded, sealed_is, sealed_is_edited, sealed_keeps_file, sealed_reads_back, sealed_told, some_channel, updated_is_edited, updating_begins}
pub use Rattle.snd_edits.proofs.EditedFrames.{CanPut, closed_counted, coded_size, end_max, known_is, still_closed, whole_frames, written_count, written_end, written_sound}
pub use Rattle.snd_edits.proofs.EditedSounds.{edited_pieces, sound_by, sound_with}
pub use Rattle.snd_edits.proofs.EditedSteps.{leads_to_edited, more_frames}
pub use Rattle.snd_edits.proofs.Encoded.{blocks_read_where, closed_before, counted_within, frames_of, frames_where, frames_whole, given_anew, given_none, given_sealed, held_where, last_given, nothing_given, pace_anew, place_anew, sealed_may, some_writer, still_apart, whole_all, whole_bytes}
pub use Rattle.snd_edits.proofs.EncodedFiles.{encoded_sound, encoded_stays, given_then, put_again, state_stays}
pub use Rattle.snd_edits.proofs.EncodedPlaces.{blocks_of, data_more, last_ends, may_encode, next_at_end, next_is_end, none_ends, place_behind_whole, places_within, room_for, room_on_disk, whole_blocks_then, whole_least}
pub use Rattle.snd_edits.proofs.EncodedSafe.{given_rests, given_safe, whole_safe}
pub use Rattle.snd_edits.proofs.EncodedState.{declared_where, ends_where, given_where, known_where, place_where, room_where, whole_reaches}
pub use Rattle.snd_edits.proofs.FileRules.{lies_in}
pub use Rattle.snd_edits.proofs.FixedFrames.{blocks_bad, blocks_good, blocks_told, broken_is, count_any, count_of, count_opened, frames_fixed, good_frames, good_read, if_ok, is_fixed}
pub use Rattle.snd_edits.proofs.GivenBytes.{bytes_given, count_of_given, fits_given}
pub use Rattle.snd_edits.proofs.ImageFields.{fields_lie_apart}
pub use Rattle.snd_edits.proofs.KeptChunks.{leads_keep_chunks}
pub use Rattle.snd_edits.proofs.MadeBlocks.{small_blocks}
pub use Rattle.snd_edits.proofs.MadeFiles.{made_is_edited, made_is_encoded}
pub use Rattle.snd_edits.proofs.NewFiles.{begins_at_start, begins_new, ends_at_start, is_new, making_ok, making_refused, never_refused, no_refusal}
pub use Rattle.snd_edits.proofs.Opened.{update_adpcm, update_ok, update_open}
pub use Rattle.snd_edits.proofs.Opening.{frames_of_bytes, opening_ok, opening_refused}
pub use Rattle.snd_edits.proofs.PartlyWritten.{partly_before, partly_behind, partly_made}
pub use Rattle.snd_edits.proofs.PutHeads.{begins_again, no_sound, some_told}
pub use Rattle.snd_edits.proofs.Ranges.{are_16_bits, fits_16_bits, fits_blocks, fits_form, in_form}
pub use Rattle.snd_edits.proofs.Rooms.{may_count, not_adpcm, room_holds}
pub use Rattle.snd_edits.proofs.SafeCuts.{cut_safe}
pub use Rattle.snd_edits.proofs.SafeImages.{at_rest, from_after, same_file, wider}
pub use Rattle.snd_edits.proofs.SafeRests.{automatic_rest, cut_rest, fields_apart, sealed_rest, trimmed_rest, trimmed_safe, written_rest}
pub use Rattle.snd_edits.proofs.SafeSeals.{sealed_safe}
pub use Rattle.snd_edits.proofs.SafeWrites.{grown_safe, written_safe}
pub use Rattle.snd_edits.proofs.SealedFrames.{sealed_closed, sealed_decoded, sealed_no_less}
pub use Rattle.snd_edits.proofs.Sealing.{coded_is, end_before, end_is, ends_before, grown_is_sealed, length-coded, same_maps, still_kept_up}
pub use Rattle.snd_edits.proofs.SoundFrames.{frame_bytes, frames_told, groups_of_front, groups_of_piece, linear_align, linear_bytes, linear_frames, span_fits}
pub use Rattle.snd_edits.proofs.EncodedPlaces.{few_frames}
pub use Rattle.snd_edits.proofs.GivenBytes.{few_frames as few_given_frames}
