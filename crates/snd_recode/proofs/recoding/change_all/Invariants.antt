use Rattle.std.proofs.Common.{◌≡◌, ℕ, ℤ, ◌<◌, ◌≤◌, ◌++◌, drop, get_or, length, take}
use Rattle.snd_pcm.specs.Width.{HasWidth}
use Rattle.snd_recode.specs.Recoded.{changed_all}
use Rattle.snd_recode.proofs.recoding.change_all.Given as goal

abbrev pub invariant-loop-number : goal.invariant-loop-number
invariant-loop-number l = record {
  so_far : l.numbers ≡ changed_all l.from l.to (take l.number-index l.fn.numbers) ++ drop l.number-index l.fn.numbers;
  fit : (k : ℕ) (d : ℤ) → k < l.number-index → HasWidth l.to (get_or l.numbers k d);
  rest : (k : ℕ) (d : ℤ) → l.number-index ≤ k → k < length l.numbers → get_or l.numbers k d ≡ get_or l.fn.numbers k d;
}
