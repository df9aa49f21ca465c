use Rattle.std.proofs.Common.{rules, refl, sym, ◌∙◌}
use Rattle.snd_layout.proofs.Answered.{opens_on, passed_on, refusal_found}
use Rattle.snd_rf64.specs.Layout.{rf64_layout, sizes_of}
use Rattle.snd_rf64.specs.Parts.{layout_with}
use Rattle.snd_rf64.proofs.Layouts.{layout_is, parts_placed, refusal_is, sizes_refused, walked}
use Rattle.snd_rf64.proofs.layout.find_layout.Goals as goal

pub returns-in_err-sizes-clause-told : goal.returns-in_err-sizes-clause-told
returns-in_err-sizes-clause-told g c =
    passed_on g.D.Disk.state c.args.disk.now sizes_of rf64_layout c.from_residual.result c.in_err-sizes.field-0.0 (search rules) (λ b refusal is. sizes_refused b refusal is) c.in_err-sizes.ensures.told

pub layout_at-requires-clause-placed : goal.layout_at-requires-clause-placed
layout_at-requires-clause-placed g c = parts_placed c.args.size c.in_ok-sizes.sizes c.in_ok-front.front c.in_ok-parts.parts c.in_ok-front.ensures.placed c.in_ok-parts.ensures.found

pub returns-in_err-parts-clause-told : goal.returns-in_err-parts-clause-told
returns-in_err-parts-clause-told g c =
    refusal_found g.D.Disk.state c.args.disk.now rf64_layout c.in_err-parts.field-0.0 c.from_residual-in_err-parts.result (search rules) (λ b told.
    refusal_is b c.in_ok-sizes.sizes c.in_ok-front.front c.in_err-parts.field-0.0 (c.in_ok-sizes.ensures.told b told)
    (walked b c.in_ok-front.front _ c.in_ok-sizes.sizes.next refl (c.in_ok-front.ensures.told b (c.read_sizes.ensures.reads.keeps.contents ∙ told))) c.in_err-parts.ensures.refused)

pub returns-clause-told : goal.returns-clause-told
returns-clause-told g c =
    opens_on g.D.Disk.state c.args.disk.now c.walk_front.new.disk (λ b. layout_with b c.in_ok-sizes.sizes c.in_ok-front.front c.in_ok-parts.parts) rf64_layout c.layout_at.result
    (c.walk_front.ensures.reads.keeps.contents ∙ c.read_sizes.ensures.reads.keeps.contents)
    (λ b told. sym (layout_is b c.in_ok-sizes.sizes c.in_ok-front.front c.in_ok-parts.parts (c.in_ok-sizes.ensures.told b told)
    (walked b c.in_ok-front.front _ c.in_ok-sizes.sizes.next refl (c.in_ok-front.ensures.told b (c.read_sizes.ensures.reads.keeps.contents ∙ told))) c.in_ok-parts.ensures.found))
    c.layout_at.ensures.told
