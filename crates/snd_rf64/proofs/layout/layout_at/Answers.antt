use Rattle.std.proofs.Common.{rules, ◌≡◌, ◌∙◌, ap, length}
use Rattle.snd_layout.specs.Format.{format_of}
use Rattle.snd_layout.proofs.Answered.{passed_on}
use Rattle.snd_chunks.specs.Parts.{body_of}
use Rattle.snd_rf64.specs.Layout.{fitted}
use Rattle.snd_rf64.specs.Parts.{ends_of, layout_with, with_params}
use Rattle.snd_rf64.proofs.Layouts.{built}
use Rattle.snd_rf64.proofs.layout.layout_at.Goals as goal

pub returns-in_err-params-clause-told : goal.returns-in_err-params-clause-told
returns-in_err-params-clause-told g c =
    passed_on g.D.Disk.state c.args.disk.now (λ b. fitted (format_of (body_of b c.args.parts.format))) (λ b. layout_with b c.args.sizes c.args.front.now c.args.parts) c.from_residual.result c.in_err-params.field-0.0 (search rules)
    (λ b refusal is. ap (with_params b c.args.sizes c.args.front.now c.args.parts) is) c.in_err-params.ensures.told

pub returns-clause-told : goal.returns-clause-told
returns-clause-told g c = λ b told.
    let size : c.args.size ≡ length b = c.requires.size ∙ g.met.D.Disk.size_told c.args.disk.now b told in
    let told_then = c.read_params.ensures.reads.keeps.contents ∙ told in
    built b c.args.sizes c.args.front.now c.args.parts c.in_ok-params.params _ c.ends_of-ends.result c.in_ok-pieces.pieces c.layout_of.result
    (c.in_ok-params.ensures.told b told)
    (c.ends_of-ends.ensures ∙ ap (λ n. ends_of n c.args.sizes c.args.parts.sound.at) size)
    (c.in_ok-pieces.ensures.told b told_then)
    c.layout_of.ensures.value
