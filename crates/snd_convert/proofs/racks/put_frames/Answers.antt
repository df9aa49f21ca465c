use Rattle.std.proofs.Common.{OnOk, sym, subst}
use Rattle.snd_output.specs.Appended.{Lengthens}
use Rattle.snd_racking.specs.Racked.{racked_left}
use Rattle.snd_convert.specs.Planning.{items_of}
use Rattle.snd_convert.proofs.racks.put_frames.Goals as goal

pub returns-in-Some-clause-lengthens : goal.returns-in-Some-clause-lengthens
returns-in-Some-clause-lengthens g c =
    subst (λ r. OnOk c.append_racked.result (Lengthens g.D.Disk.state g.E.Disk.state (racked_left (items_of r)) c.args.from.now c.args.to.now c.append_racked.new.to))
    (sym c.in-Some.is) c.append_racked.ensures.lengthens

pub returns-in-None-clause-lengthens : goal.returns-in-None-clause-lengthens
returns-in-None-clause-lengthens g c =
    subst (λ r. OnOk c.append.result (Lengthens g.D.Disk.state g.E.Disk.state (racked_left (items_of r)) c.args.from.now c.args.to.now c.append.new.to))
    (sym c.in-None.is) c.append.ensures.lengthens
