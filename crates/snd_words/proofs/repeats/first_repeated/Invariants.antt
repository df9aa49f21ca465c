use Rattle.std.proofs.Common.{◌≡◌, ◌+◌, ◌-◌, ◌∷◌, [], ◌++◌, length, find}
use Rattle.std.specs.List.{range_with_len}
use Rattle.snd_words.specs.Repeats.{first_repeated, is_repeated_at}
use Rattle.snd_words.proofs.repeats.first_repeated.Given as goal

abbrev pub invariant-loop-at : goal.invariant-loop-at
invariant-loop-at l =
    find (is_repeated_at (l.inputs ++ l.output ∷ [])) (range_with_len l.at (length l.inputs + 1 - l.at)) ≡ first_repeated (l.inputs ++ l.output ∷ [])
