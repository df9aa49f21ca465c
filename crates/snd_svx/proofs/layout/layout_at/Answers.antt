use Rattle.std.proofs.Common.{rules, ◌≡◌, ◌∙◌, ap, sym, length, List}
use Rattle.snd_chunks.specs.declared.chunk.Chunk.{Chunk}
use Rattle.snd_layout.proofs.Answered.{passed_on}
use Rattle.snd_svx.proofs.Layouts.{built, same_ends}
use Rattle.snd_svx.specs.Layout.{voice_of}
use Rattle.snd_svx.specs.Parts.{layout_with, with_header}
use Rattle.snd_svx.proofs.layout.layout_at.Goals as goal

pub returns-in_err-header-clause-told : goal.returns-in_err-header-clause-told
returns-in_err-header-clause-told g c =
    passed_on g.D.Disk.state c.args.disk.now (λ b. voice_of b c.as_slice.result.now c.args.parts.header) (λ b. layout_with b c.args.front.now c.args.parts) c.from_residual.result c.in_err-header.field-0.0 (search rules)
    (λ b refusal is. ap (with_header b c.args.front.now c.args.parts) (ap (λ (l : List Chunk). voice_of b l c.args.parts.header) (sym c.as_slice.ensures) ∙ is)) c.in_err-header.ensures.told

pub returns-clause-told : goal.returns-clause-told
returns-clause-told g c = λ b told.
    let size : c.args.size ≡ length b = c.requires.size ∙ g.met.D.Disk.size_told c.args.disk.now b told in
    let told_then = c.read_voice.ensures.reads.keeps.contents ∙ told in
    let told_sized = c.read_number.ensures.reads.keeps.contents ∙ told_then in
    built b c.args.front.now c.args.parts c.in_ok-header.header _ c.ends_of-ends.result c.in_ok-pieces.pieces c.layout_of.result
    (ap (λ (l : List Chunk). voice_of b l c.args.parts.header) (sym c.as_slice.ensures) ∙ c.in_ok-header.ensures.told b told)
    (c.ends_of-ends.ensures ∙ same_ends _ _ _ _ c.args.parts.sound size (c.in_ok-form.ensures.told b told_then))
    (c.in_ok-pieces.ensures.told b told_sized)
    c.layout_of.ensures.value
