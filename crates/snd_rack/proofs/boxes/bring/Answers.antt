use Rattle.snd_rack.proofs.Placed.{bring_is}
use Rattle.snd_rack.proofs.boxes.bring.Goals as goal

pub returns-clause-order : goal.returns-clause-order
returns-clause-order g c = bring_is c.args.at c.args.found c.args.stages.now c.rotate_right.new.self c.requires.before c.requires.there c.rotate_right.ensures.after
