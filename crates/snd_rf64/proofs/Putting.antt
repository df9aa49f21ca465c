-- The head of an RF64 file into which a piece is put.
use Rattle.std.proofs.Common.{◌≡◌, ℕ, ◌+◌, ◌-◌, ◌<◌, ◌≤◌, List, [], ◌∷◌, ◌++◌, None, false, length, refl, sym, ap, ◌∙◌, arith, length-append, append_assoc}
use Rattle.std.proofs.lemmas.List.{append-nil}
use Rattle.std.proofs.lemmas.List.Elements.{All-weaker}
use Rattle.std.specs.Prelude.{codes}
use Rattle.snd_chunks.proofs.Public.{length-chunk_bytes, length-head_bytes}
use Rattle.snd_chunks.specs.Written.{NewChunk, chunk_bytes, chunks_bytes, head_bytes}
use Rattle.snd_fields.specs.Field.{bytes_of}
use Rattle.snd_fields.specs.declared.field.Order.TheVariants.{Little}
use Rattle.snd_layout.specs.Fit.{fit_refusal}
use Rattle.snd_layout.specs.Params.{Parameters}
use Rattle.snd_layout.specs.Shape.{Shape}
use Rattle.snd_layout.specs.declared.kind.Kind.TheVariants.{Rf64}
use Rattle.snd_layout.specs.declared.piece.Piece.{Piece}
use Rattle.snd_wave.proofs.Public.{bytes_few, Closes, format_few, IsSplit, new_are, new_few, no_bytes, small}
use Rattle.snd_chunks.specs.Heads.{IsLayoutIn, with_piece}
use Rattle.snd_wave.specs.Relaid.{AreStanding, IsSmall, standing}
use Rattle.snd_wave.specs.Written.{MayBePiece, new_format}
use Rattle.snd_wave.specs.declared.rest.Closing.{Closing}
use Rattle.snd_rf64.specs.Layout.{shape_at}
use Rattle.snd_rf64.specs.Put.{HeadReadsBack, data_head, first_place, rf64_heads}
use Rattle.snd_rf64.specs.Written.{MayBeMade, head_size, made_pieces, made_shape, no_size, plain_start, rf64_head, top}
use Rattle.snd_rf64.proofs.Made.{first_fits, head_reads_back, length-head, size_is}
use Rattle.snd_rf64.proofs.NewFiles.{plain_size}

-- the first piece stands behind the format
pub first_is : (p : Parameters) (start : ℕ) → fit_refusal Rf64 p ≡ None → start ≡ plain_start p.codec → start - 8 ≡ first_place p
first_is p start fits is = omega (arith, is, plain_size p fits, size_is p [], first_fits p [], no_bytes)

-- ---- how a head is split

abbrev pub rf64_mark : List ℕ
rf64_mark = codes "RF64" ++ bytes_of Little 4 no_size ++ codes "WAVE" ++ codes "ds64" ++ bytes_of Little 4 28

abbrev pub rf64_size : ℕ → List ℕ
rf64_size n = bytes_of Little 8 (n - 8)

abbrev no_frames : List ℕ
no_frames = bytes_of Little 8 0 ++ bytes_of Little 8 0 ++ bytes_of Little 4 0

abbrev pub rf64_form : Parameters → List ℕ
rf64_form p = no_frames ++ chunks_bytes Little (new_format p ∷ [])

abbrev pub rf64_closing : ℕ → List ℕ
rf64_closing end = data_head

regrouped : (m s x y z f b d : List ℕ) → (m ++ s ++ x ++ y ++ z) ++ (f ++ b) ++ d ≡ (m ++ s ++ (x ++ y ++ z ++ (f ++ []))) ++ (b ++ d)
regrouped m s x y z f b d = simp (append_assoc, append-nil)

module _ (p : Parameters) where
  split_by : (pieces : List NewChunk) → rf64_head p pieces ≡ (rf64_mark ++ rf64_size (head_size p pieces) ++ rf64_form p) ++ (chunks_bytes Little pieces ++ data_head)
  unfolding rf64_head top chunks_bytes
  split_by pieces =
      regrouped rf64_mark (rf64_size (head_size p pieces)) (bytes_of Little 8 0) (bytes_of Little 8 0) (bytes_of Little 4 0) (chunk_bytes Little (new_format p)) (chunks_bytes Little pieces) data_head

  split : (pieces : List NewChunk) → rf64_head p pieces ≡ (rf64_mark ++ rf64_size (length (rf64_head p pieces)) ++ rf64_form p) ++ (chunks_bytes Little pieces ++ data_head)
  split pieces = split_by pieces ∙ ap (λ (n : ℕ). (rf64_mark ++ rf64_size n ++ rf64_form p) ++ (chunks_bytes Little pieces ++ data_head)) (sym (length-head p pieces))

  begins : (n : ℕ) → length (rf64_mark ++ rf64_size n ++ rf64_form p) ≡ first_place p
  unfolding chunks_bytes
  begins n =
      let mark : length (rf64_mark ++ rf64_size n) ≡ 28 = refl in
      let fields : length no_frames ≡ 20 = refl in
      omega (
        arith,
        mark,
        fields,
        length-append (rf64_mark ++ rf64_size n) (rf64_form p),
        length-append no_frames (chunks_bytes Little (new_format p ∷ [])),
        length-append (chunk_bytes Little (new_format p)) [],
        length-chunk_bytes Little (new_format p) 48 refl,
      )

  pub rf64_split : IsSplit rf64_heads p Little (first_place p) rf64_mark (rf64_form p) rf64_size rf64_closing
  rf64_split = record { split = split; first_is = begins; wide = λ m n. refl }

  -- the new layout
  pub new_shape : (start : ℕ) (pieces : List NewChunk) (anew : List Piece) → start ≡ length (rf64_head p pieces) → anew ≡ standing (first_place p) pieces → shape_at p start 0 0 false anew ≡ made_shape p pieces
  unfolding made_shape made_pieces standing
  new_shape start pieces anew starts stand =
      ap (λ (k : ℕ). shape_at p k 0 0 false anew) (starts ∙ length-head p pieces) ∙ ap (λ (l : List Piece). shape_at p (head_size p pieces) 0 0 false l) stand

pub data_few : length data_head ≡ 8
data_few = length-head_bytes Little (codes "data") no_size refl

-- how it is closed
pub closes : (end : ℕ) (close : Closing) → close.order ≡ Little → close.bytes.items ≡ data_head → close.size_at ≡ 20 → close.size.items ≡ bytes_of Little 8 (end + length close.bytes.items - 8) → Closes Little rf64_mark rf64_size rf64_closing end close
closes end close order bytes there size = record { ordered = order; there = there; closed = bytes; sized = size }

-- what closes it, put together
pub closing_put : (none named all : List ℕ) → none ≡ [] → named ≡ none ++ codes "data" → all ≡ named ++ bytes_of Little 4 no_size → all ≡ data_head
unfolding head_bytes
closing_put none named all one two three = rw (three, two, one) refl

-- ---- what the layout of a head says

module _ (h : Shape) (p : Parameters) (pieces : List NewChunk) (is : IsLayoutIn rf64_heads h p pieces) where
  pub made_params : h.params ≡ p
  unfolding made_shape
  made_params = ap (λ (s : Shape). s.params) is.shape

  pub stands : AreStanding (first_place p) h.pieces pieces
  unfolding made_shape made_pieces standing
  stands = record { small = All-weaker MayBePiece IsSmall small pieces is.may.pieces_are; few = is.may.few; stand = ap (λ (s : Shape). s.pieces) is.shape }

  pub new_may : (place : ℕ) (piece : NewChunk) → MayBePiece piece → place ≤ length pieces → place < 240 → MayBeMade p (with_piece pieces place piece)
  new_may place piece may within few = record {
    params = is.may.params;
    fits = is.may.fits;
    pieces_are = new_are pieces place piece MayBePiece is.may.pieces_are may;
    few = new_few pieces place piece within few is.may.few;
  }

-- ---- what a head says that is made

pub heads_read_back : HeadReadsBack
heads_read_back p pieces may =
    head_reads_back p pieces may (omega (arith, size_is p pieces, first_fits p pieces, bytes_few Little pieces (All-weaker MayBePiece IsSmall small pieces may.pieces_are), may.few, format_few p))
