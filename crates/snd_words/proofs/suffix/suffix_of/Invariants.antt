use Rattle.std.proofs.Common.{◌≡◌, ◌+◌, ◌≤◌, length, take}
use Rattle.snd_words.specs.Suffix.{count_behind_dot}
use Rattle.snd_words.proofs.suffix.suffix_of.Given as goal

abbrev pub invariant-loop-start : goal.invariant-loop-start
invariant-loop-start l = record {
  within : l.start ≤ length l.name;
  behind : l.start + count_behind_dot l.name ≡ length l.name + count_behind_dot (take l.start l.name);
}

abbrev pub decreases-loop-start : goal.decreases-loop-start
decreases-loop-start l = l.start
