use Rattle.std.proofs.Common.{◌≡◌, ◌+◌, ◌*◌, ◌<◌, ◌-◌, drop, length}
use Rattle.snd_words.specs.Metadata.{option_pairs}
use Rattle.snd_words.proofs.pairs.count_pairs.Given as goal

abbrev pub invariant-loop-count : goal.invariant-loop-count
invariant-loop-count l = record {
  within : 2 * l.count < length l.words;
  same : l.count + length (option_pairs (drop (2 * l.count + 1) l.words)) ≡ length (option_pairs (drop 1 l.words));
}

abbrev pub decreases-loop-count : goal.decreases-loop-count
decreases-loop-count l = length l.words - l.count
