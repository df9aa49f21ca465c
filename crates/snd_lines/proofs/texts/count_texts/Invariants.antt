use Rattle.std.proofs.Common.{◌≡◌, ◌≤◌, ◌+◌, ◌⊎◌, length, drop}
use Rattle.snd_meta.specs.Info.{table, IsInfo}
use Rattle.snd_lines.proofs.Listing.{entries_under}
use Rattle.snd_lines.proofs.texts.count_texts.Given as goal

abbrev pub invariant-loop-key : goal.invariant-loop-key
invariant-loop-key l = record {
  some : l.count ≤ l.key-index;
  same : l.count + length (entries_under (drop l.key-index l.key-items) l.list) ≡ length (entries_under table l.list);
  info : (l.key-index ≡ 0) ⊎ IsInfo l.list;
}
