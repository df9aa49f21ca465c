use Rattle.std.proofs.Common.{rules, ◌≡◌, ◌∙◌, ap, length}
use Rattle.snd_layout.specs.Format.{format_of}
use Rattle.snd_layout.proofs.Answered.{passed_on}
use Rattle.snd_wave.proofs.Layouts.{built, same_ends}
use Rattle.snd_chunks.specs.Parts.{body_of}
use Rattle.snd_wave.specs.Layout.{reserve_of}
use Rattle.snd_wave.specs.Parts.{layout_with, with_params}
use Rattle.snd_wave.proofs.layout.layout_at.Goals as goal

pub returns-in_err-params-clause-told : goal.returns-in_err-params-clause-told
returns-in_err-params-clause-told g c =
    passed_on g.D.Disk.state c.args.disk.now (λ b. format_of (body_of b c.args.parts.format)) (λ b. layout_with b c.args.front.now c.args.parts) c.from_residual.result c.in_err-params.field-0.0 (search rules)
    (λ b refusal is. ap (with_params b c.args.front.now c.args.parts) is) c.in_err-params.ensures.told

pub returns-clause-told : goal.returns-clause-told
returns-clause-told g c = λ b told.
    let size : c.args.size ≡ length b = c.requires.size ∙ g.met.D.Disk.size_told c.args.disk.now b told in
    let told_then = c.read_format.ensures.reads.keeps.contents ∙ told in
    let told_counted = c.read_count.ensures.reads.keeps.contents ∙ told_then in
    let told_sized = c.read_number.ensures.reads.keeps.contents ∙ told_counted in
    built b c.args.front.now c.args.parts c.in_ok-params.params _ c.in_ok-count.count c.ends_of-ends.result c.reserve_of-reserve.result c.in_ok-pieces.pieces c.layout_of.result
    (c.in_ok-params.ensures.told b told)
    (c.in_ok-count.ensures.told b told_then)
    (c.ends_of-ends.ensures ∙ same_ends _ _ _ _ c.args.parts.sound size (c.in_ok-riff.ensures.told b told_counted))
    (c.reserve_of-reserve.ensures ∙ ap (reserve_of c.in_ok-params.params) c.as_slice.ensures)
    (c.in_ok-pieces.ensures.told b told_sized)
    c.layout_of.ensures.value
