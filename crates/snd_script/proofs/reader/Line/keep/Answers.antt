use Rattle.std.proofs.Common.{◌≡◌, ◌+◌, ◌++◌, ◌∙◌, ap, length, take, arith}
use Rattle.std.proofs.lemmas.List.{length-take}
use Rattle.snd_script.specs.Lines.{most_kept}
use Rattle.snd_script.proofs.Parts.{kept_front, most_kept-is, on_ok}
use Rattle.snd_script.proofs.reader.Line.keep.Goals as goal

pub returns : goal.returns
returns c =
    let room : c.remaining_capacity.result + length c.self.inside.bytes.items ≡ 4097 = c.remaining_capacity.ensures in
    let kept = on_ok _ (c.try_extend_from_slice.ensures.variant.1 (omega (arith, length-take c.min-count.result c.args.bytes.now))) c.try_extend_from_slice.ensures.ok in
    kept ∙ kept_front most_kept c.min-count.result _ _ (omega (arith, most_kept-is)) (omega (arith, most_kept-is, c.min-count.ensures)) ∙ ap (λ xs. take most_kept (xs ++ c.args.bytes.now)) c.self.view_is
