use Rattle.std.proofs.Common.{◌≡◌, ◌+◌, ◌*◌, ◌≤◌, ◌++◌, length, drop}
use Rattle.std.specs.List.{flat_map}
use Rattle.snd_rules.specs.Replies.{spaced}
use Rattle.snd_rules.proofs.page.push_frame.Given as goal

abbrev pub invariant-loop-number : goal.invariant-loop-number
invariant-loop-number g l = record {
  so_far : l.page.items ++ flat_map spaced (drop l.number-index l.rest) ≡ l.initial.page.items ++ flat_map spaced l.rest;
  count : length l.page.items ≤ length l.initial.page.items + 12 * l.number-index;
}
