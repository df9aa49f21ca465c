use Rattle.std.proofs.Common.{rules, refl, sym, arith}
use Rattle.snd_layout.proofs.Answered.{opens_on, refusal_found}
use Rattle.snd_svx.specs.Layout.{svx_layout}
use Rattle.snd_svx.specs.Parts.{layout_with}
use Rattle.snd_svx.proofs.Layouts.{layout_is, parts_placed, refusal_is, seen_few, walked}
use Rattle.snd_svx.proofs.layout.find_layout.Goals as goal

pub layout_at-requires-clause-placed : goal.layout_at-requires-clause-placed
layout_at-requires-clause-placed g c = parts_placed c.args.size c.in_ok-front.front c.in_ok-parts.parts c.in_ok-front.ensures.placed c.in_ok-parts.ensures.found

pub returns-in_err-parts-clause-told : goal.returns-in_err-parts-clause-told
returns-in_err-parts-clause-told g c =
    refusal_found g.D.Disk.state c.args.disk.now svx_layout c.in_err-parts.field-0.0 c.from_residual-in_err-parts.result (search rules) (λ b told.
    refusal_is b c.in_ok-front.front c.in_err-parts.field-0.0 (walked b c.in_ok-front.front _ refl (c.in_ok-front.ensures.told b told)) c.in_err-parts.ensures.refused)

pub returns-then-len-gt-MOST_CHUNKS-clause-told : goal.returns-then-len-gt-MOST_CHUNKS-clause-told
returns-then-len-gt-MOST_CHUNKS-clause-told g c = λ refusal b by told.
    absurd (omega (
      arith,
      seen_few b c.in_ok-front.front c.in_ok-parts.parts.sound (walked b c.in_ok-front.front _ refl (c.in_ok-front.ensures.told b told)) c.in_ok-parts.ensures.found.sound,
      c.len.ensures,
      c.if-len-gt-MOST_CHUNKS.true,
    ))

pub returns-clause-told : goal.returns-clause-told
returns-clause-told g c =
    opens_on g.D.Disk.state c.args.disk.now c.walk_front.new.disk (λ b. layout_with b c.in_ok-front.front c.in_ok-parts.parts) svx_layout c.layout_at.result c.walk_front.ensures.reads.keeps.contents
    (λ b told. sym (layout_is b c.in_ok-front.front c.in_ok-parts.parts (walked b c.in_ok-front.front _ refl (c.in_ok-front.ensures.told b told)) c.in_ok-parts.ensures.found))
    c.layout_at.ensures.told
