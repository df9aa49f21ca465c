-- What a loop that carries chunks has done so far.
use Rattle.std.proofs.Common.{◌≡◌, ◌∙◌, ap, sym, subst, ℕ, true, ℤ, List, [], ◌∷◌, ◌++◌, All, Bool, cond, Option, None, Some, Result, Ok, Err, inl, inr, length, arith}
use Rattle.std.proofs.lemmas.List.{length-map, map-append, nil_from_length}
use Rattle.std.proofs.lemmas.List.Elements.{All-append, All-cons, All-nil}
use Rattle.std.proofs.lemmas.Bool.{cases_Bool}
use Rattle.std.specs.Prelude.{is_none, map, slice_get}
use Rattle.snd_chunks.specs.Written.{NewChunk}
use Rattle.snd_container.specs.Made.{new_file, new_shape}
use Rattle.snd_container.specs.Put.{heads_for}
use Rattle.snd_blocks.specs.Sound.{frames_in}
use Rattle.snd_container.specs.Sound.{fixed_of}
use Rattle.snd_disk.specs.declared.disk.Disk.{Ghosts}
use Rattle.snd_disk.specs.State.{State}
use Rattle.snd_layout.specs.Fit.{fit_refusal}
use Rattle.snd_layout.specs.Params.{Parameters}
use Rattle.snd_layout.specs.Shape.{Shape}
use Rattle.snd_layout.specs.declared.kind.Kind.{Kind}
use Rattle.snd_layout.specs.declared.piece.Piece.{Piece}
use Rattle.snd_chunks.specs.Heads.{chunk_read, new_piece, with_piece}
use Rattle.snd_file.specs.declared.handle.File.{File}
use Rattle.snd_edits.specs.declared.mode.Mode.{Ghosts as ModeGhosts}
use Rattle.snd_edits.specs.Editing.{Editing, first_editing}
use Rattle.snd_edits.specs.Known.{Known}
use Rattle.snd_file.specs.Handle.{Stands, StandsAfter, known_of}
use Rattle.snd_layout.specs.Kinds.{holds_meta}
use Rattle.snd_layout.specs.declared.refusal.OpenRefusal.{OpenRefusal}
use Rattle.snd_edits.specs.Making.{making_as, making_of}
use Rattle.snd_edits.specs.Pieces.{body_of}
use Rattle.snd_edits.specs.Relaid.{added_to, head_with, pieces_held, shape_put, shape_with}
use Rattle.snd_carry.specs.Carried.{carried_pieces}
use Rattle.snd_output.specs.Made.{IsChunk, made_with}
use Rattle.snd_output.proofs.Public.{new_head, new_says, says_of}
use Rattle.snd_carry.specs.Carrying.{Carries, CarriesOne, HoldsChunk, HoldsChunks, HoldsOne, IsNewShape, known_with}
use Rattle.snd_carry.proofs.Heads.{as_many, count_with, new_kind, new_params, put_behind, put_last}
use Rattle.snd_carry.proofs.Taken.{few_carried}

-- one chunk more of a file that was made with some
pub added_is : (kind : Kind) (p : Parameters) (cs : List NewChunk) (id body : List ℕ) → holds_meta kind ≡ true → pieces_held (made_with kind p cs) ≡ cs
    → added_to id body (made_with kind p cs) ≡ made_with kind p (cs ++ new_piece id body ∷ [])
added_is kind p cs id body meta held =
    let h : Shape = shape_with kind p cs in
    let n : ℕ = length h.pieces in
    let c : NewChunk = new_piece id body in
    let all : n ≡ length cs = as_many kind p meta cs in
    let bytes : (heads_for h.reserve h.kind).head h.params (with_piece (pieces_held (made_with kind p cs)) n c) ≡ head_with kind p (cs ++ c ∷ []) =
    ap (λ (r : Option ℕ). (heads_for r h.kind).head h.params (with_piece (pieces_held (made_with kind p cs)) n c)) (says_of kind p cs meta).reserve
    ∙ ap (λ (k : Kind). head_with k h.params (with_piece (pieces_held (made_with kind p cs)) n c)) (says_of kind p cs meta).kind_is
    ∙ ap (λ (q : Parameters). head_with kind q (with_piece (pieces_held (made_with kind p cs)) n c)) (says_of kind p cs meta).params
    ∙ ap (λ (l : List NewChunk). head_with kind p (with_piece l n c)) held
    ∙ ap (head_with kind p) (put_last cs c n all) in
    let shape : shape_put n c h ≡ shape_with kind p (cs ++ c ∷ []) = put_behind kind p meta cs c n all in
    ap (λ (b : List ℕ). record (made_with kind p cs) { bytes = b; shape = shape_put n c h }) bytes ∙ ap (λ (s : Shape). record (made_with kind p (cs ++ c ∷ [])) { shape = s }) shape

-- the state in which a file is made
first_by : (kind : Kind) (p : Parameters) (e : Editing) (r : Option OpenRefusal) → making_as kind p r ≡ Ok e → e ≡ first_editing (new_file kind p) (new_shape kind p)
first_by kind p e (Some refusal) given = absurd (cc)
first_by kind p e None given =
    let it : first_editing (new_file kind p) (new_shape kind p) ≡ e = cc in
    sym it

first_is : (kind : Kind) (p : Parameters) (e : Editing) → making_of kind p ≡ Ok e → e ≡ first_editing (new_file kind p) (new_shape kind p)
unfolding making_of
first_is kind p e made = first_by kind p e (fit_refusal kind p) made

pub made_none : (kind : Kind) (p : Parameters) (e : Editing) → holds_meta kind ≡ true → making_of kind p ≡ Ok e → e.shape.frames ≡ length e.frames → e ≡ made_with kind p []
made_none kind p e meta made count =
    let first : e ≡ first_editing (new_file kind p) (new_shape kind p) = first_is kind p e made in
    let shape : e.shape ≡ shape_with kind p [] = ap (λ (x : Editing). x.shape) first ∙ new_says kind p in
    let few : length e.frames ≡ 0 = sym count ∙ ap (λ (s : Shape). s.frames) shape ∙ (says_of kind p [] meta).frames in
    let none : e.frames ≡ [] = nil_from_length e.frames few in
    let framed : frames_in (new_file kind p) (new_shape kind p) ≡ [] = sym (ap (λ (x : Editing). x.frames) first) ∙ none in
    first ∙ ap (λ (l : List (List ℤ)). record (first_editing (new_file kind p) (new_shape kind p)) { frames = l }) framed
    ∙ ap (λ (b : List ℕ). record (made_with kind p []) { bytes = b; shape = new_shape kind p }) (new_head kind p)
    ∙ ap (λ (s : Shape). record (made_with kind p []) { shape = s }) (new_says kind p)

held_none : (kind : Kind) (p : Parameters) → holds_meta kind ≡ true → pieces_held (made_with kind p []) ≡ []
held_none kind p meta =
    nil_from_length (pieces_held (made_with kind p [])) (length-map (shape_with kind p []).pieces (chunk_read (head_with kind p [])) ∙ as_many kind p meta [])

module _ {D E M N : Type 0} {ghosts : Ghosts D} {others : Ghosts E} {mode : ModeGhosts M} {making : ModeGhosts N} (state : D → State) (state' : E → State) (from : File D M ghosts mode) (to : File E N others making) where
  -- the new file has the chunks of these pieces, and tells them
  pub record SoFar (now : File E N others making) (xs : List Piece) : Type 0 where
    pub so : (e e' : Editing) (kind : Kind) (p : Parameters) → Stands state from e → making_of kind p ≡ Ok e' → Stands state' to e' →
        Stands state' now (made_with kind p (map (chunk_read e.bytes) xs)) × (pieces_held (made_with kind p (map (chunk_read e.bytes) xs)) ≡ map (chunk_read e.bytes) xs)

  module _ (meta : holds_meta (known_of to).shape.kind ≡ true) where
    -- the kind of what was made is that of the handle
    meta_of : (kind : Kind) (p : Parameters) (e' : Editing) → making_of kind p ≡ Ok e' → Stands state' to e' → holds_meta kind ≡ true
    meta_of kind p e' made stands =
        let is : (known_of to).shape.kind ≡ kind = ap (λ (s : Shape). s.kind) (stands.shape ∙ ap (λ (x : Editing). x.shape) (first_is kind p e' made)) ∙ new_kind kind p in
        ap holds_meta (sym is) ∙ meta

    pub none_yet : SoFar to []
    none_yet = record {
      so = λ e e' kind p s made stands.
          let of_kind = meta_of kind p e' made stands in
          (subst (Stands state' to) (made_none kind p e' of_kind made stands.count) stands, held_none kind p of_kind);
    }

    pub one_more : (from' : File D M ghosts mode) (now next : File E N others making) (xs : List Piece) (piece : Piece) → SoFar now xs → StandsAfter state from from' (λ e. e)
        → CarriesOne state state' piece from' now next → HoldsOne state state' piece from' now next → SoFar next (xs ++ piece ∷ [])
    one_more from' now next xs piece was stays carries holds = record {
      so = λ e e' kind p s made stands.
          let of_kind = meta_of kind p e' made stands in
          let before = was.so e e' kind p s made stands in
          let read : Piece → NewChunk = chunk_read e.bytes in
          let cs : List NewChunk = map read xs in
          let joined : cs ++ read piece ∷ [] ≡ map read (xs ++ piece ∷ []) = sym (map-append read xs (piece ∷ [])) in
          let same : added_to piece.id.0 (body_of e.bytes piece) (made_with kind p cs) ≡ made_with kind p (cs ++ read piece ∷ []) = added_is kind p cs piece.id.0 (body_of e.bytes piece) of_kind before.1 in
          let after : Stands state' next (made_with kind p (map read (xs ++ piece ∷ []))) = subst (Stands state' next) (same ∙ ap (made_with kind p) joined) (carries e (made_with kind p cs) (stays e s) before.0) in
          (after, holds e (made_with kind p cs) (made_with kind p (map read (xs ++ piece ∷ []))) (stays e s) before.0 after ∙ ap (λ (l : List NewChunk). l ++ read piece ∷ []) before.1 ∙ joined);
    }

  pub all_carried : (now : File E N others making) → SoFar now (carried_pieces (known_of from).shape.pieces) → Carries state state' from to now
  all_carried now so_far e e' kind p s made stands =
      subst (λ (ps : List Piece). Stands state' now (made_with kind p (map (chunk_read e.bytes) (carried_pieces ps)))) (ap (λ (h : Shape). h.pieces) s.shape) (so_far.so e e' kind p s made stands).0

-- the chunks of pieces that were read are of bytes, and such as a file may be made with
module _ {D M : Type 0} {ghosts : Ghosts D} {mode : ModeGhosts M} (state : D → State) (from : File D M ghosts mode) where
  pub record ChunksSoFar (xs : List Piece) : Type 0 where
    pub each : (e : Editing) → Stands state from e → All IsChunk (map (chunk_read e.bytes) xs)

  pub no_chunks : ChunksSoFar []
  no_chunks = record { each = λ e s. All-nil IsChunk }

  pub chunks_more : (from' : File D M ghosts mode) (xs : List Piece) (piece : Piece) → ChunksSoFar xs → StandsAfter state from from' (λ e. e) → HoldsChunk state piece from' → ChunksSoFar (xs ++ piece ∷ [])
  chunks_more from' xs piece was stays is = record {
    each = λ e s.
        let read : Piece → NewChunk = chunk_read e.bytes in
        subst (All IsChunk) (sym (map-append read xs (piece ∷ []))) (All-append IsChunk (map read xs) (read piece ∷ []) (was.each e s) (All-cons IsChunk (read piece) [] (is e (stays e s)) (All-nil IsChunk)));
  }

  pub all_chunks : ChunksSoFar (carried_pieces (known_of from).shape.pieces) → HoldsChunks state from
  all_chunks are e s = record {
    each = subst (λ (ps : List Piece). All IsChunk (map (chunk_read e.bytes) (carried_pieces ps))) (ap (λ (h : Shape). h.pieces) s.shape) (are.each e s);
    few = omega (arith, length-map (carried_pieces e.shape.pieces) (chunk_read e.bytes), few_carried e.shape.pieces);
  }

-- what is known of a file as it is made
made_again : (h : Shape) (kind : Kind) (p : Parameters) → h ≡ new_shape kind p → h ≡ new_shape h.kind h.params
made_again h kind p is =
    let kinds : h.kind ≡ kind = ap (λ (s : Shape). s.kind) is ∙ new_kind kind p in
    let params : h.params ≡ p = ap (λ (s : Shape). s.params) is ∙ new_params kind p in
    is ∙ ap (λ (k : Kind). new_shape k p) (sym kinds) ∙ ap (new_shape h.kind) (sym params)

pub known_none : (k : Known) → IsNewShape k.shape → k ≡ known_with [] k
known_none k new = ap (λ (s : Shape). record k { shape = s }) (made_again k.shape new.0 new.1 new.2 ∙ new_says k.shape.kind k.shape.params)

-- what is read of the list of a handle, and how many pieces that of the new file has
pub read_at : (old now : Known) (listed : List Piece) (place : ℕ) (got x : Option Piece) → now ≡ old → listed ≡ now.shape.pieces → got ≡ slice_get listed place → got ≡ x → slice_get old.shape.pieces place ≡ x
read_at old now listed place got x same is read there = sym (ap (λ (l : List Piece). slice_get l place) (is ∙ ap (λ (k : Known). k.shape.pieces) same)) ∙ sym read ∙ there

pub count_of : (k now : Known) (xs listed : List Piece) (n : ℕ) → holds_meta k.shape.kind ≡ true → now ≡ known_with xs k → listed ≡ now.shape.pieces → n ≡ length listed → n ≡ length xs
count_of k now xs listed n meta known is counted = counted ∙ ap length (is ∙ ap (λ (x : Known). x.shape.pieces) known) ∙ count_with xs k meta

-- what a file that was just made has, by the clause of the call that made it
pub made_new : (h : Shape) (kind : Kind) (p : Parameters) → h ≡ new_shape kind p → IsNewShape h
made_new h kind p is = (kind, p, is)

pub made_meta : (h : Shape) (kind : Kind) (p : Parameters) → h ≡ new_shape kind p → holds_meta kind ≡ true → holds_meta h.kind ≡ true
made_meta h kind p is meta = ap holds_meta (ap (λ (s : Shape). s.kind) is ∙ new_kind kind p) ∙ meta
