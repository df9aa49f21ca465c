use Rattle.std.proofs.Common.{rules, ◌+◌, drop, ◌≡◌, Some, true, false, slice_get, sym, ap, ◌∙◌}
use Rattle.snd_rack.specs.Rack.{bad_place, is_bad}
use Rattle.snd_rack.specs.Setting.{stated}
use Rattle.snd_rack.proofs.Placed.{bad_later, bad_now}
use Rattle.snd_rack.proofs.spec.RackSpec.bad_place.Goals as goal

pub returns-then-is_bad : goal.returns-then-is_bad
returns-then-is_bad c =
    let there : slice_get c.args.self.now c.loop-at.at ≡ Some (stated c.in-Some.setting) = search rules in
    let bad : is_bad c.loop-at.count (stated c.in-Some.setting) ≡ true = search rules in
    sym (bad_now c.args.self.now c.loop-at.at (stated c.in-Some.setting) c.loop-at.count there bad) ∙ c.loop-at.invariant

pub loop-at-preserved : goal.loop-at-preserved
loop-at-preserved c =
    let there : slice_get c.args.self.now c.loop-at.at ≡ Some (stated c.in-Some.setting) = search rules in
    let good : is_bad c.loop-at.count (stated c.in-Some.setting) ≡ false = search rules in
    ap (bad_place (drop (c.loop-at.at + 1) c.args.self.now)) c.channels_behind-count.ensures
    ∙ sym (bad_later c.args.self.now c.loop-at.at (stated c.in-Some.setting) c.loop-at.count there good) ∙ c.loop-at.invariant
