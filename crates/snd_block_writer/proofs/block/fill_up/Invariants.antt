use Rattle.std.proofs.Common.{◌≡◌, ◌-◌, ◌≤◌, ◌++◌, length, pos, replicate}
use Rattle.snd_block_writer.proofs.block.fill_up.Given as goal

abbrev pub invariant-loop : goal.invariant-loop
invariant-loop l = record {
  count : length l.numbers.items ≡ l.counter;
  least : length l.initial.numbers.items ≤ l.counter;
  filled : l.numbers.items ≡ l.initial.numbers.items ++ replicate (l.counter - length l.initial.numbers.items) (pos 0);
}
