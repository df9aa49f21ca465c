use Rattle.std.proofs.Common.{◌≡◌, ◌∙◌, length, ap, Err, rules}
use Rattle.snd_layout.specs.declared.refusal.OpenRefusal.{OpenRefusal}
use Rattle.snd_layout.specs.declared.refusal.OpenRefusal.TheVariants.{BadField}
use Rattle.snd_voc.proofs.Parting.{place_bad, place_is}
use Rattle.snd_voc.proofs.layout.read_place.Goals as goal

pub returns-then-not-is_head-clause-told : goal.returns-then-not-is_head-clause-told
returns-then-not-is_head-clause-told g c = λ refusal b by told.
    let same : BadField ≡ refusal = cc in
    let size : c.args.size ≡ length b = c.requires ∙ g.met.D.Disk.size_told c.args.disk.now b told in
    place_bad b c.read_from.new.into c.args.size (c.in_ok-read_from.ensures.told b told) size c.if-size.false (search rules) ∙ ap (λ (r : OpenRefusal). Err r) same

pub returns-clause-told : goal.returns-clause-told
returns-clause-told g c = λ b told.
    let size : c.args.size ≡ length b = c.requires ∙ g.met.D.Disk.size_told c.args.disk.now b told in
    place_is b c.read_from.new.into c.args.size c.from.result (c.in_ok-read_from.ensures.told b told) size c.if-size.false (search rules) (search rules)
