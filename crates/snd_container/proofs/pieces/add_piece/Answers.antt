use Rattle.std.proofs.Common.{ap, length, ◌∙◌}
use Rattle.std.proofs.lemmas.Result.{on_ok_weaker}
use Rattle.snd_container.proofs.Heads.{adds_behind}
use Rattle.snd_layout.specs.Shape.{Shape}
use Rattle.snd_chunks.specs.Heads.{new_piece}
use Rattle.snd_container.proofs.pieces.add_piece.Goals as goal

pub returns-clause-added : goal.returns-clause-added
returns-clause-added g c =
    on_ok_weaker c.put_piece.result
    (λ put. adds_behind g.D.Disk.state c.args.disk.now c.put_piece.new.disk c.args.layout.now c.put_piece.new.layout c.len-place.result (new_piece c.args.id.0 c.args.body.now) c.requires.may (c.len-place.ensures ∙ ap (λ (s : Shape). length s.pieces) c.layout.view_is) put)
    c.put_piece.ensures.put
