use Rattle.std.proofs.Common.{◌≡◌, ◌∙◌, ap, sym, subst, ℕ, List, [], ◌∷◌, ◌++◌, All, length, arith}
use Rattle.std.proofs.lemmas.List.{length-map}
use Rattle.std.proofs.lemmas.Result.{on_ok_weaker}
use Rattle.snd_fields.specs.Laws.{IsByte}
use Rattle.snd_layout.specs.Shape.{Shape}
use Rattle.snd_chunks.specs.Heads.{chunk_read, new_piece}
use Rattle.snd_file.specs.Handle.{known_of}
use Rattle.snd_edits.specs.Pieces.{body_of}
use Rattle.snd_edits.specs.Relaid.{pieces_held}
use Rattle.snd_carry.proofs.Heads.{outline_put, put_last}
use Rattle.snd_carry.proofs.Taken.{not_own, small}
use Rattle.snd_carry.proofs.bodies.carry_chunk.Goals as goal

pub returns-clause-known : goal.returns-clause-known
returns-clause-known g c =
    let long : length c.deref.result.now ≡ c.args.piece.len = ap length c.deref.ensures.value ∙ c.in_ok-body.ensures.size in
    on_ok_weaker c.put_chunk.result (λ known. known ∙ outline_put (length (known_of c.args.to.now).shape.pieces) c.args.piece c.deref.result.now (known_of c.args.to.now) c.requires.meta long) c.put_chunk.ensures.known

pub returns-clause-holds : goal.returns-clause-holds
returns-clause-holds g c =
    on_ok_weaker c.put_chunk.result
    (λ holds e e' e'' from was is.
    let n : ℕ = length (known_of c.args.to.now).shape.pieces in
    let all : n ≡ length (pieces_held e') = ap (λ (s : Shape). length s.pieces) was.shape ∙ sym (length-map e'.shape.pieces (chunk_read e'.bytes)) in
    let body : c.deref.result.now ≡ body_of e.bytes c.args.piece = c.deref.ensures.value ∙ c.in_ok-body.ensures.body e from in
    holds e' e'' was is ∙ put_last (pieces_held e') (new_piece c.args.piece.id.0 c.deref.result.now) n all
    ∙ ap (λ (l : List ℕ). pieces_held e' ++ new_piece c.args.piece.id.0 l ∷ []) body)
    c.put_chunk.ensures.holds

pub returns-clause-chunk : goal.returns-clause-chunk
returns-clause-chunk g c =
    on_ok_weaker c.put_chunk.result
    (λ known e stands.
    let body : c.in_ok-body.body.items ≡ body_of e.bytes c.args.piece = c.in_ok-body.ensures.body e stands in
    record {
      four = c.requires.four;
      other = not_own c.args.piece c.requires.carried;
      few = omega (arith, sym (ap length body) ∙ c.in_ok-body.ensures.size, small c.args.piece c.requires.carried);
      id = c.requires.id;
      body = subst (All IsByte) body c.in_ok-body.ensures.bytes;
    })
    c.put_chunk.ensures.known
