use Rattle.std.proofs.Common.{◌≡◌, ◌⊎◌, ◌++◌, drop}
use Rattle.snd_meta.specs.Info.{table, IsInfo}
use Rattle.snd_lines.proofs.Listing.{lines_under}
use Rattle.snd_lines.proofs.texts.push_texts.Given as goal

abbrev pub invariant-loop-key : goal.invariant-loop-key
invariant-loop-key l = record {
  same : l.text.items ++ lines_under l.words (drop l.key-index l.key-items) l.list ≡ l.initial.text.items ++ lines_under l.words table l.list;
  info : (l.key-index ≡ 0) ⊎ IsInfo l.list;
}
