-- Laws of racks for the crates above.
pub use Rattle.snd_rack.proofs.Composed.{one_after_other}
pub use Rattle.snd_rack.proofs.Passed.{FramesIn, all_passable, channels_held, channels_later, each_may, groups_in, held_later, later_twice, passable_later, passed_in, passed_is, passed_joined, racked_on, range_back, range_front}
pub use Rattle.snd_rack.proofs.Cut.{length_groups}
pub use Rattle.snd_rack.proofs.Widths.{kinds_passable, size_kept}
