use Rattle.std.proofs.Common.{◌∙◌, ap, arith, subst, List, All}
use Rattle.snd_carry.specs.Carried.{body_bytes}
use Rattle.snd_chunks.specs.Written.{NewChunk}
use Rattle.snd_inputs.proofs.Public.{asks_less}
use Rattle.snd_layout.specs.Shape.{Shape}
use Rattle.snd_layout.specs.declared.piece.Piece.{Piece}
use Rattle.snd_file.specs.Handle.{known_of}
use Rattle.snd_metadata.specs.Chunks.{kept_chunks, with_extension, with_info_list}
use Rattle.snd_metadata.specs.Planned.{MayStand}
use Rattle.snd_metadata.proofs.places.chunks_of.Goals as goal

pub put_info_list-requires-clause-stand : goal.put_info_list-requires-clause-stand
put_info_list-requires-clause-stand g c =
    c.in_ok-put_extension.ensures.each (known_of c.args.file.now).shape.pieces (subst (λ (ps : List Piece). All (MayStand ps) c.in_ok-plan.plan.items) c.pieces.ensures c.in_ok-plan.ensures.each)

pub returns-clause-chunks : goal.returns-clause-chunks
returns-clause-chunks g c = λ e stands.
    c.in_ok-put_info_list.ensures.put e stands
    ∙ ap (λ (l : List NewChunk). with_info_list c.args.summary.texts c.args.bodies.texts.items l)
    (c.in_ok-put_extension.ensures.put e.bytes
    ∙ ap (λ (l : List NewChunk). with_extension c.args.summary.fields c.args.bodies.extension.items l)
    (c.in_ok-plan.ensures.kept e.bytes ∙ ap (λ (ps : List Piece). kept_chunks e.bytes ps) (c.pieces.ensures ∙ ap (λ (h : Shape). h.pieces) stands.shape)))

pub returns-clause-plan : goal.returns-clause-plan
returns-clause-plan g c = record {
  few = omega (arith, c.in_ok-put_info_list.ensures.few, c.in_ok-put_extension.ensures.few, c.in_ok-plan.ensures.few);
  each = c.in_ok-put_info_list.ensures.stand;
  once = omega (arith, c.in_ok-put_info_list.ensures.no_more, c.in_ok-put_extension.ensures.no_more, c.in_ok-plan.ensures.once, ap body_bytes c.pieces.ensures);
}

pub returns-in_err-put_info_list-clause-asked : goal.returns-in_err-put_info_list-clause-asked
returns-in_err-put_info_list-clause-asked g c = asks_less _ _ _ _ (omega (arith, c.in_ok-put_extension.ensures.few, c.in_ok-plan.ensures.few)) c.put_info_list.ensures.asked

pub returns-clause-asked : goal.returns-clause-asked
returns-clause-asked g c = asks_less _ _ _ _ (omega (arith, c.in_ok-put_extension.ensures.few, c.in_ok-plan.ensures.few)) c.put_info_list.ensures.asked
