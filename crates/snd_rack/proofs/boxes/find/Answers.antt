use Rattle.std.proofs.Common.{◌≡◌, false, rules, sym, ◌∙◌}
use Rattle.snd_rack.specs.Boxes.{is_kind}
use Rattle.snd_rack.proofs.Placed.{not_counted, other_kind}
use Rattle.snd_rack.proofs.boxes.find.Goals as goal

pub loop-at-preserved : goal.loop-at-preserved
loop-at-preserved g c =
    let other : is_kind c.args.kind c.kind_at.result ≡ false = search (rules, other_kind) in
    sym (not_counted c.args.kind c.kind_at.result _ c.loop-at.at (sym c.kind_at.ensures) other) ∙ c.loop-at.invariant
