use Rattle.std.proofs.Common.{rules}
use Rattle.snd_layout.specs.Shape.{IsPlaced}
use Rattle.snd_edits.specs.Pieces.{has_name}
use Rattle.snd_frames.proofs.ReadBodies.{found_has}
use Rattle.snd_frames.proofs.bodies.piece_to_give.Goals as goal

pub returns-clause-placed : goal.returns-clause-placed
returns-clause-placed c = found_has IsPlaced (has_name c.args.id.0) c.args.layout.now.pieces c.in-Some.piece c.keeps_rule.ensures.pieces_placed (search rules)
