-- The head of an 8SVX file into which a piece is put.
use Rattle.std.proofs.Common.{◌≡◌, ℕ, ◌+◌, ◌-◌, ◌<◌, ◌≤◌, List, [], ◌∷◌, ◌++◌, None, false, length, refl, sym, ap, ◌∙◌, arith, length-append, append_assoc}
use Rattle.std.proofs.lemmas.List.{append-nil}
use Rattle.std.proofs.lemmas.List.Elements.{All-nil, All-weaker}
use Rattle.std.specs.Prelude.{codes, if◌then◌else◌}
use Rattle.snd_chunks.proofs.Public.{length-chunks_bytes, length-head_bytes}
use Rattle.snd_chunks.specs.Written.{NewChunk, chunk_bytes, chunks_bytes, head_bytes}
use Rattle.snd_fields.specs.Field.{bytes_of}
use Rattle.snd_fields.specs.declared.field.Order.TheVariants.{Big}
use Rattle.snd_layout.specs.Fit.{fit_refusal}
use Rattle.snd_layout.specs.Params.{AreParams, Parameters, data_bytes}
use Rattle.snd_layout.specs.Sector.{is_in_one_sector}
use Rattle.snd_layout.specs.Shape.{Shape}
use Rattle.snd_layout.specs.declared.kind.Kind.TheVariants.{Svx}
use Rattle.snd_layout.specs.declared.piece.Piece.{Piece}
use Rattle.snd_wave.proofs.Public.{chunks-joined, Closes, IsSplit, new_are, new_few}
use Rattle.snd_chunks.specs.Heads.{IsLayoutIn, with_piece}
use Rattle.snd_wave.specs.Put.{filler_for}
use Rattle.snd_wave.specs.Relaid.{AreStanding, IsSmall, standing}
use Rattle.snd_wave.specs.declared.rest.Closing.{Closing}
use Rattle.snd_svx.specs.Layout.{shape_of}
use Rattle.snd_svx.specs.Put.{closing_behind, svx_heads}
use Rattle.snd_svx.specs.Values.{form_size}
use Rattle.snd_svx.specs.Written.{MayBeMade, MayBePiece, chunks_before, filler, form_head, head_for, head_size, junk, made_pieces, made_shape, new_header, start_without_filler, svx_head}
use Rattle.snd_svx.proofs.NewFiles.{is_voice}

-- ---- how a head is split

abbrev pub svx_mark : List ℕ
svx_mark = codes "FORM"

abbrev pub svx_size : ℕ → List ℕ
svx_size n = bytes_of Big 4 (form_size n 0)

abbrev pub svx_form : Parameters → List ℕ
svx_form p = codes "8SVX" ++ chunks_bytes Big (new_header p.rate 0 ∷ [])

regrouped : (m s w h b f d : List ℕ) → (m ++ s ++ w) ++ (h ++ (b ++ f)) ++ d ≡ (m ++ s ++ (w ++ (h ++ []))) ++ (b ++ (f ++ d))
regrouped m s w h b f d = simp (append_assoc, append-nil)

header_size : (rate frames : ℕ) → length (chunk_bytes Big (new_header rate frames)) ≡ 28
unfolding chunk_bytes head_bytes
header_size rate frames = refl

-- where the data begin does not hang on the frames
pub size_for : (p : Parameters) (pieces : List NewChunk) (frames : ℕ) → head_size p pieces ≡ 20 + length (chunks_bytes Big (chunks_before p pieces frames))
size_for p pieces frames =
    omega (
      arith,
      length-chunks_bytes Big (new_header p.rate 0) (pieces ++ filler p pieces),
      length-chunks_bytes Big (new_header p.rate frames) (pieces ++ filler p pieces),
      header_size p.rate 0,
      header_size p.rate frames,
    )

pub length-head_for : (p : Parameters) (pieces : List NewChunk) (frames : ℕ) → length (head_for p pieces frames) ≡ head_size p pieces
unfolding head_for
length-head_for p pieces frames =
    let n : ℕ = data_bytes p frames in
    let s : ℕ = form_size (head_size p pieces) n in
    let chunks : List ℕ = chunks_bytes Big (chunks_before p pieces frames) in
    let top : length (form_head s) ≡ 12 = refl in
    omega (
      arith,
      top,
      size_for p pieces frames,
      length-append (form_head s ++ chunks) (head_bytes Big (codes "BODY") n),
      length-append (form_head s) chunks,
      length-head_bytes Big (codes "BODY") n refl,
    )

pub length-head : (p : Parameters) (pieces : List NewChunk) → length (svx_head p pieces) ≡ head_size p pieces
length-head p pieces = length-head_for p pieces 0

-- where the data would begin without a filler
start_is : (p : Parameters) (pieces : List NewChunk) → start_without_filler p pieces - 4 ≡ 40 + length (chunks_bytes Big pieces) + 8 - 4
start_is p pieces = omega (arith, length-chunks_bytes Big (new_header p.rate 0) pieces, header_size p.rate 0)

pub no_bytes_yet : (p : Parameters) → AreParams p → fit_refusal Svx p ≡ None → data_bytes p 0 ≡ 0
no_bytes_yet p good fits = ap (λ (q : Parameters). data_bytes q 0) (is_voice p good fits).0

module _ (p : Parameters) (good : AreParams p) (fits : fit_refusal Svx p ≡ None) where
  none : data_bytes p 0 ≡ 0
  none = no_bytes_yet p good fits

  split_by : (pieces : List NewChunk) → svx_head p pieces ≡ (svx_mark ++ svx_size (head_size p pieces) ++ svx_form p) ++ (chunks_bytes Big pieces ++ (chunks_bytes Big (filler p pieces) ++ head_bytes Big (codes "BODY") 0))
  unfolding head_for chunks_bytes
  split_by pieces =
      ap (λ (n : ℕ). form_head (form_size (head_size p pieces) n) ++ chunks_bytes Big (new_header p.rate 0 ∷ (pieces ++ filler p pieces)) ++ head_bytes Big (codes "BODY") n) none
      ∙ ap (λ (l : List ℕ). form_head (form_size (head_size p pieces) 0) ++ (chunk_bytes Big (new_header p.rate 0) ++ l) ++ head_bytes Big (codes "BODY") 0) (chunks-joined Big pieces (filler p pieces))
      ∙ regrouped svx_mark (svx_size (head_size p pieces)) (codes "8SVX") (chunk_bytes Big (new_header p.rate 0)) (chunks_bytes Big pieces) (chunks_bytes Big (filler p pieces)) (head_bytes Big (codes "BODY") 0)

  split : (pieces : List NewChunk) → svx_head p pieces ≡ (svx_mark ++ svx_size (length (svx_head p pieces)) ++ svx_form p) ++ (chunks_bytes Big pieces ++ closing_behind (40 + length (chunks_bytes Big pieces)))
  unfolding closing_behind
  split pieces =
      split_by pieces ∙ ap (λ (n : ℕ). (svx_mark ++ svx_size n ++ svx_form p) ++ (chunks_bytes Big pieces ++ (chunks_bytes Big (filler p pieces) ++ head_bytes Big (codes "BODY") 0))) (sym (length-head p pieces))
      ∙ ap (λ (n : ℕ). (svx_mark ++ svx_size (length (svx_head p pieces)) ++ svx_form p) ++ (chunks_bytes Big pieces ++ (chunks_bytes Big (if is_in_one_sector n 4 then [] else junk ∷ []) ++ head_bytes Big (codes "BODY") 0))) (start_is p pieces)

  begins : (n : ℕ) → length (svx_mark ++ svx_size n ++ svx_form p) ≡ 40
  unfolding chunks_bytes chunk_bytes head_bytes
  begins n = refl

  pub svx_split : IsSplit svx_heads p Big 40 svx_mark (svx_form p) svx_size closing_behind
  svx_split = record { split = split; first_is = begins; wide = λ m n. refl }

  -- the new layout
  pub new_shape : (start : ℕ) (pieces : List NewChunk) (anew : List Piece) → start ≡ length (svx_head p pieces) → anew ≡ standing 40 pieces → shape_of p start 0 0 20 false anew ≡ made_shape p pieces 0
  unfolding made_shape standing
  new_shape start pieces anew starts stand =
      ap (λ (k : ℕ). shape_of p k 0 0 20 false anew) (starts ∙ length-head p pieces) ∙ ap (λ (l : List Piece). shape_of p (head_size p pieces) 0 0 20 false l) stand
      ∙ ap (λ (n : ℕ). shape_of p (head_size p pieces) 0 n 20 false (made_pieces pieces)) (sym none)

-- what closes it, put together
pub closing_put : (end : ℕ) (none filled named all : List ℕ) → none ≡ [] → filled ≡ none ++ chunks_bytes Big (filler_for (end + 8 - 4) 4) → named ≡ filled ++ codes "BODY" → all ≡ named ++ bytes_of Big 4 0 → all ≡ closing_behind end
unfolding closing_behind head_bytes
closing_put end none filled named all empty one two three = rw (three, two, one, empty) (simp append_assoc)

-- how it is closed
pub closes : (end : ℕ) (close : Closing) → end + 4096 ≤ 16777216 → close.order ≡ Big → close.bytes.items ≡ closing_behind end → length close.bytes.items ≤ 24 → close.size_at ≡ 4 → close.size.items ≡ bytes_of Big 4 (end + length close.bytes.items - 8)
    → Closes Big svx_mark svx_size closing_behind end close
closes end close low order bytes few there size =
    let form : end + length close.bytes.items - 8 ≡ form_size (end + length close.bytes.items) 0 = omega (arith, low, few) in
    record { ordered = order; there = there; closed = bytes; sized = size ∙ ap (bytes_of Big 4) form }

-- ---- what the layout of a head says

pub small : (piece : NewChunk) → MayBePiece piece → IsSmall piece
small piece is = record { four = is.four; few = is.few }

module _ (h : Shape) (p : Parameters) (pieces : List NewChunk) (is : IsLayoutIn svx_heads h p pieces) where
  pub made_params : h.params ≡ p
  unfolding made_shape
  made_params = ap (λ (s : Shape). s.params) is.shape

  pub stands : AreStanding 40 h.pieces pieces
  unfolding made_shape standing
  stands = record { small = All-weaker MayBePiece IsSmall small pieces is.may.pieces_are; few = is.may.few; stand = ap (λ (s : Shape). s.pieces) is.shape }

  pub new_may : (place : ℕ) (piece : NewChunk) → MayBePiece piece → place ≤ length pieces → place < 240 → MayBeMade p (with_piece pieces place piece)
  new_may place piece may within few = record {
    params = is.may.params;
    fits = is.may.fits;
    pieces_are = new_are pieces place piece MayBePiece is.may.pieces_are may;
    few = new_few pieces place piece within few is.may.few;
  }

pub plain_may : (p : Parameters) → AreParams p → fit_refusal Svx p ≡ None → MayBeMade p []
plain_may p good fits = record { params = good; fits = fits; pieces_are = All-nil MayBePiece; few = omega arith }
