use Rattle.std.proofs.Common.{◌≡◌, ◌<◌, ◌^◌, ◌-◌, ◌++◌, length, take}
use Rattle.snd_generate.specs.Numbers.{numbers_from, state_after}
use Rattle.snd_generate.proofs.numbers.fill.Given as goal

abbrev pub invariant-loop-number : goal.invariant-loop-number
invariant-loop-number l = record {
  so_far : take l.number-index l.block ++ numbers_from (length l.block - l.number-index) l.last ≡ numbers_from (length l.fn.block) l.fn.state;
  state : state_after (length l.block - l.number-index) l.last ≡ state_after (length l.fn.block) l.fn.state;
  small : l.last < 2 ^ 32;
}
