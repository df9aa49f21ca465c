use Rattle.std.proofs.Common.{◌+◌, length, drop, ap, inr, arith, ◌∙◌}
use Rattle.snd_meta.specs.declared.info.InfoKey.TheVariants.{Title}
use Rattle.snd_meta.specs.Info.{table}
use Rattle.snd_lines.proofs.Listing.{entries_under, known, count_more, count_same, count_end}
use Rattle.snd_lines.proofs.texts.count_texts.Goals as goal
use Rattle.snd_lines.proofs.texts.count_texts.Goals.{then-is_some, else-is_some}

pub loop-key-preserved : goal.loop-key-preserved
loop-key-preserved c = record {
  some = elim c.if-is_some.branch [ then-is_some w ↦ omega arith | else-is_some w ↦ omega arith ];
  same = elim c.if-is_some.branch [
    | then-is_some w ↦
        ap (λ n. n + length (entries_under (drop (c.loop-key.key-index + 1) table) c.args.list.now)) w.count-is
        ∙ count_more table c.loop-key.key-index Title c.args.list.now c.text.result c.loop-key.count (omega arith) c.text.ensures.value w.if-is_some.ensures
        ∙ c.loop-key.invariant.same
    | else-is_some w ↦
        ap (λ n. n + length (entries_under (drop (c.loop-key.key-index + 1) table) c.args.list.now)) w.count-is
        ∙ count_same table c.loop-key.key-index Title c.args.list.now c.text.result c.loop-key.count (omega arith) c.text.ensures.value w.if-is_some.ensures
        ∙ c.loop-key.invariant.same
  ];
  info = inr c.text.ensures.info;
}

pub returns : goal.returns
returns c =
    count_end table c.loop-key.key-index c.args.list.now c.loop-key.count (omega arith) (known c.loop-key.key-index c.args.list.now (omega arith) c.loop-key.invariant.info)
    c.loop-key.invariant.same
