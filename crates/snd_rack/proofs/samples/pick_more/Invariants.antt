use Rattle.std.proofs.Common.{◌≡◌, ◌++◌, ℕ, map, pos, slice_index_or, take}
use Rattle.snd_rack.proofs.samples.pick_more.Given as goal

abbrev pub invariant-loop-place : goal.invariant-loop-place
invariant-loop-place l = l.into.items ≡ l.fn.into.items ++ map (λ (place : ℕ). slice_index_or l.frame place (pos 0)) (take l.place-index l.places)
