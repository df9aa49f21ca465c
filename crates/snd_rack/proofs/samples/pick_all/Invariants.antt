use Rattle.std.proofs.Common.{◌≡◌, ◌++◌, ℕ, map, pos, slice_index_or}
use Rattle.std.specs.List.{flat_map}
use Rattle.snd_pcm.specs.Groups.{groups}
use Rattle.snd_rack.proofs.samples.pick_all.Given as goal

abbrev pub invariant-loop-frame : goal.invariant-loop-frame
invariant-loop-frame l = record {
  size : l.frame-iterator.size ≡ l.channels;
  samples : l.into.items ++ flat_map (λ frame. map (λ (place : ℕ). slice_index_or frame place (pos 0)) l.places) (groups l.channels l.frame-iterator.rest.now)
      ≡ flat_map (λ frame. map (λ (place : ℕ). slice_index_or frame place (pos 0)) l.places) (groups l.channels l.from);
}
