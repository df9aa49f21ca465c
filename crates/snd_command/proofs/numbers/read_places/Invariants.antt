use Rattle.std.proofs.Common.{◌≡◌, ◌+◌, ◌++◌, ◌≤◌, length, option_map}
use Rattle.snd_command.specs.Numbers.{all_of, place}
use Rattle.snd_command.specs.Words.{words}
use Rattle.snd_command.proofs.numbers.read_places.Given as goal

abbrev pub invariant-loop-word : goal.invariant-loop-word
invariant-loop-word l = record {
  so_far : option_map (λ xs. l.into.items ++ xs) (all_of place (words l.rest)) ≡ all_of place (words l.args);
  count : length l.into.items + length (words l.rest) ≡ length (words l.args);
  bound : length l.into.items ≤ 100;
}

abbrev pub decreases-loop-word : goal.decreases-loop-word
decreases-loop-word l = length (words l.rest)
