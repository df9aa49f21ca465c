-- The heads of WAVE and RF64 files with a chunk more.
use Rattle.std.proofs.Common.{◌≡◌, ◌∙◌, ap, sym, refl, ℕ, ◌+◌, true, List, [], ◌∷◌, ◌++◌, Option, None, length, take, drop, arith}
use Rattle.std.proofs.lemmas.List.{length-map, length-replicate, map-append, places, same_lists}
use Rattle.std.specs.Prelude.{map, replicate}
use Rattle.snd_chunks.specs.Written.{NewChunk}
use Rattle.snd_container.proofs.Public.{head_laws, piece_laws}
use Rattle.snd_container.specs.Made.{new_shape}
use Rattle.snd_layout.specs.Params.{Parameters}
use Rattle.snd_layout.specs.Shape.{Shape}
use Rattle.snd_layout.specs.declared.kind.Kind.{Kind}
use Rattle.snd_layout.specs.declared.piece.Piece.{Piece}
use Rattle.snd_chunks.specs.Heads.{new_piece, with_piece, outline, blank, blanks}
use Rattle.snd_edits.specs.Known.{Known}
use Rattle.snd_layout.specs.Kinds.{holds_meta}
use Rattle.snd_edits.specs.PieceCalls.{known_put}
use Rattle.snd_container.specs.Put.{heads_for}
use Rattle.snd_edits.specs.Relaid.{shape_put, shape_with}
use Rattle.snd_chunks.proofs.Public.{blanks_blanks, blanks_with}
use Rattle.snd_layout.proofs.Public.{meta_holds}
use Rattle.snd_output.proofs.Public.{laws_of, says_of}
use Rattle.snd_carry.specs.Carrying.{known_with}

-- the kind and the parameters of a file as it is made
pub new_kind : (kind : Kind) (p : Parameters) → (new_shape kind p).kind ≡ kind
new_kind kind p = sym (ap (λ (h : Shape). h.kind) ((head_laws kind).bare_shape p)) ∙ (head_laws kind).kind_is p []

pub new_params : (kind : Kind) (p : Parameters) → (new_shape kind p).params ≡ p
new_params kind p = sym (ap (λ (h : Shape). h.params) ((head_laws kind).bare_shape p)) ∙ (head_laws kind).params_are p []

-- ---- the outlines of chunks

blank_outline : (piece : Piece) → blank (outline piece) ≡ outline piece
unfolding blank
blank_outline piece = ap (λ (n : ℕ). new_piece piece.id.0 (replicate n 0)) (length-replicate piece.len 0)

blank_body : (piece : Piece) (body : List ℕ) → length body ≡ piece.len → blank (new_piece piece.id.0 body) ≡ outline piece
unfolding blank
blank_body piece body long = ap (λ (n : ℕ). new_piece piece.id.0 (replicate n 0)) long

with_last : {A : Type 0} (xs : List A) (x : A) (n : ℕ) → n ≡ length xs → take n xs ++ x ∷ drop (n + 1) xs ≡ xs ++ x ∷ []
with_last xs x n all = same_lists _ _ (grind (arith, places)) (λ k d lt. grind (arith, places))

pub put_last : (cs : List NewChunk) (c : NewChunk) (n : ℕ) → n ≡ length cs → with_piece cs n c ≡ cs ++ c ∷ []
put_last cs c n all = with_last cs c n all

-- with a reservation, or with none
module _ (r : Option ℕ) (kind : Kind) (p : Parameters) (meta : holds_meta kind ≡ true) where
  abbrev shape_of : List NewChunk → Shape
  shape_of cs = (heads_for r kind).shape p cs

  same_shape : (cs ds : List NewChunk) → blanks cs ≡ blanks ds → shape_of cs ≡ shape_of ds
  same_shape cs ds same =
      let laws = piece_laws r kind (meta_holds kind meta) in
      sym (laws.blank_shape p cs) ∙ ap shape_of same ∙ laws.blank_shape p ds

  -- a layout hangs on the outline of a chunk
  pub outlined_by : (cs : List NewChunk) (place : ℕ) (piece : Piece) (body : List ℕ) → length body ≡ piece.len → shape_of (with_piece cs place (new_piece piece.id.0 body)) ≡ shape_of (with_piece cs place (outline piece))
  outlined_by cs place piece body long =
      same_shape (with_piece cs place (new_piece piece.id.0 body)) (with_piece cs place (outline piece))
      (blanks_with cs place (new_piece piece.id.0 body) ∙ ap (with_piece (blanks cs) place) (blank_body piece body long ∙ sym (blank_outline piece)) ∙ sym (blanks_with cs place (outline piece)))

module _ (kind : Kind) (p : Parameters) (meta : holds_meta kind ≡ true) where
  -- it has as many pieces as there are chunks
  pub as_many : (cs : List NewChunk) → length (shape_with kind p cs).pieces ≡ length cs
  as_many cs = sym (length-map (shape_with kind p cs).pieces outline) ∙ ap length ((laws_of kind meta).outlined p cs) ∙ length-map cs blank

  -- the layout of a head with one chunk more
  pub put_behind : (cs : List NewChunk) (c : NewChunk) (n : ℕ) → n ≡ length cs → shape_put n c (shape_with kind p cs) ≡ shape_with kind p (cs ++ c ∷ [])
  put_behind cs c n all =
      let h : Shape = shape_with kind p cs in
      ap (λ (r : Option ℕ). (heads_for r h.kind).shape h.params (with_piece (map outline h.pieces) n c)) (says_of kind p cs meta).reserve
      ∙ ap (λ (k : Kind). shape_with k h.params (with_piece (map outline h.pieces) n c)) (says_of kind p cs meta).kind_is
      ∙ ap (λ (q : Parameters). shape_with kind q (with_piece (map outline h.pieces) n c)) (says_of kind p cs meta).params
      ∙ ap (λ (l : List NewChunk). shape_with kind p (with_piece l n c)) ((laws_of kind meta).outlined p cs)
      ∙ same_shape None kind p meta (with_piece (blanks cs) n c) (with_piece cs n c)
      (blanks_with (blanks cs) n c ∙ ap (λ (l : List NewChunk). with_piece l n (blank c)) (blanks_blanks cs) ∙ sym (blanks_with cs n c))
      ∙ ap (shape_with kind p) (put_last cs c n all)

-- what is known, with a chunk of a piece put
pub outline_put : (place : ℕ) (piece : Piece) (body : List ℕ) (k : Known) → holds_meta k.shape.kind ≡ true → length body ≡ piece.len → known_put place (new_piece piece.id.0 body) k ≡ known_put place (outline piece) k
outline_put place piece body k meta long =
    ap (λ (s : Shape). record k { shape = s }) (outlined_by k.shape.reserve k.shape.kind k.shape.params meta (map outline k.shape.pieces) place piece body long)

-- .. behind those that were put
pub known_more : (xs : List Piece) (piece : Piece) (k : Known) → holds_meta k.shape.kind ≡ true
    → known_put (length (known_with xs k).shape.pieces) (outline piece) (known_with xs k) ≡ known_with (xs ++ piece ∷ []) k
known_more xs piece k meta =
    let kind : Kind = k.shape.kind in
    let p : Parameters = k.shape.params in
    ap (λ (s : Shape). record k { shape = s })
    (put_behind kind p meta (map outline xs) (outline piece) (length (shape_with kind p (map outline xs)).pieces) (as_many kind p meta (map outline xs))
    ∙ ap (shape_with kind p) (sym (map-append outline xs (piece ∷ []))))

pub count_with : (xs : List Piece) (k : Known) → holds_meta k.shape.kind ≡ true → length (known_with xs k).shape.pieces ≡ length xs
count_with xs k meta = as_many k.shape.kind k.shape.params meta (map outline xs) ∙ length-map xs outline

pub meta_with : (xs : List Piece) (k : Known) → holds_meta k.shape.kind ≡ true → holds_meta (known_with xs k).shape.kind ≡ true
meta_with xs k meta = ap holds_meta (says_of k.shape.kind k.shape.params (map outline xs) meta).kind_is ∙ meta
