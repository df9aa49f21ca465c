-- The head of a WAVE file into which a piece is put.
use Rattle.std.proofs.Common.{◌≡◌, ℕ, ◌+◌, ◌-◌, ◌%◌, ◌<◌, ◌≤◌, List, [], ◌∷◌, ◌++◌, Bool, Option, None, Some, cond, true, false, length, refl, sym, ap, ◌∙◌, arith, length-append, append_assoc}
use Rattle.std.proofs.lemmas.List.{append-nil}
use Rattle.std.proofs.lemmas.List.Elements.{All-weaker}
use Rattle.std.specs.Prelude.{IfSome, codes, if◌then◌else◌, replicate}
use Rattle.snd_chunks.proofs.Public.{length-chunk_bytes}
use Rattle.snd_chunks.specs.Written.{NewChunk, chunk_bytes, chunks_bytes, head_bytes, pad}
use Rattle.snd_fields.specs.Field.{bytes_of}
use Rattle.snd_fields.specs.declared.field.Order.{Order}
use Rattle.snd_fields.specs.declared.field.Order.TheVariants.{Little}
use Rattle.snd_layout.specs.Fit.{fit_refusal}
use Rattle.snd_layout.specs.Params.{AreParams, Parameters, data_bytes}
use Rattle.snd_layout.specs.Sector.{is_in_one_sector}
use Rattle.snd_layout.specs.Shape.{IsReserve, Shape}
use Rattle.snd_layout.specs.declared.codec.Codec.{Codec}
use Rattle.snd_layout.specs.declared.codec.Codec.TheVariants.{U8, S8, S16, S24, S32, MuLaw, ALaw, Ima, Ms}
use Rattle.snd_layout.specs.declared.kind.Kind.TheVariants.{Wave}
use Rattle.snd_layout.specs.declared.piece.Piece.{Piece}
use Rattle.snd_chunks.specs.Heads.{IsLayoutIn, with_piece}
use Rattle.snd_wave.specs.Put.{closing_at, closing_behind, filler_at, filler_for, first_place, head_shape, reserved_heads, wave_heads}
use Rattle.snd_wave.specs.Relaid.{AreStanding, IsSmall, standing}
use Rattle.snd_wave.specs.Values.{riff_size}
use Rattle.snd_wave.specs.Written.{MayBeMade, MayBePiece, MayBeReserved, MayReserve, has_fact, junk, lead_end, lead_of, new_fact, new_format, plain_start, reserved_chunks, reserved_filler, reserved_first, reserved_head, reserved_pieces, reserved_shape, reserved_size, reserved_start, riff_head}
use Rattle.snd_wave.specs.declared.rest.Closing.{Closing}
use Rattle.snd_wave.proofs.Made.{length-reserved_head, no_bytes_yet}
use Rattle.snd_wave.proofs.NewHeads.{fact_bytes, format_few, format_size, lead_bytes, lead_most, start_is}
use Rattle.snd_wave.proofs.Planning.{new_are, new_few}
use Rattle.snd_wave.proofs.Relaying.{chunks-joined}
use Rattle.snd_wave.proofs.Splits.{Closes, IsSplit}

-- a chunk put behind others, with its pad
pub chunk_added : (order : Order) (old id body none named head second third fourth : List ℕ) → none ≡ [] → named ≡ none ++ id → head ≡ named ++ bytes_of order 4 (length body) → second ≡ old ++ head → third ≡ second ++ body → fourth ≡ third ++ pad (length body)
    → fourth ≡ old ++ chunk_bytes order (record { id = id; body = body })
unfolding chunk_bytes head_bytes
chunk_added order old id body none named head second third fourth one two three four five six = rw (six, five, four, three, two, one) (simp append_assoc)

pub odd_pad : (n : ℕ) (old : List ℕ) → n % 2 ≡ 1 → old ++ 0 ∷ [] ≡ old ++ pad n
odd_pad n old odd = rw odd refl

pub even_pad : (n : ℕ) (old : List ℕ) → (n % 2 ≡ 1 → ⊥) → old ≡ old ++ pad n
even_pad n old even = let zero : n % 2 ≡ 0 = omega (arith, even) in rw zero (sym (append-nil old))

-- ---- what closes a head

-- the filler, where it is needed
filler_parts : (old j b z e : List ℕ) → e ≡ [] → ((old ++ j) ++ b) ++ z ≡ old ++ (((j ++ b) ++ z ++ []) ++ e)
filler_parts old j b z e none = rw none (simp (append_assoc, append-nil))

pub filler_put : (order : Order) (at size : ℕ) (one : Bool) (old named sized all : List ℕ) → one ≡ is_in_one_sector at size → one ≡ false → named ≡ old ++ codes "JUNK" → sized ≡ named ++ bytes_of order 4 8 → all ≡ sized ++ replicate 8 0
    → all ≡ old ++ chunks_bytes order (filler_for at size)
unfolding chunks_bytes chunk_bytes head_bytes
filler_put order at size one old named sized all is apart a b c =
    let needed : is_in_one_sector at size ≡ false = sym is ∙ apart in
    c ∙ ap (λ (l : List ℕ). l ++ replicate 8 0) (b ∙ ap (λ (l : List ℕ). l ++ bytes_of order 4 8) a) ∙ filler_parts old (codes "JUNK") (bytes_of order 4 8) (replicate 8 0) [] refl
    ∙ ap (λ (t : Bool). old ++ chunks_bytes order (if t then [] else junk ∷ [])) (sym needed)

pub no_filler_put : (order : Order) (at size : ℕ) (one : Bool) (old : List ℕ) → one ≡ is_in_one_sector at size → one ≡ true → old ≡ old ++ chunks_bytes order (filler_for at size)
unfolding chunks_bytes
no_filler_put order at size one old is within =
    let unneeded : is_in_one_sector at size ≡ true = sym is ∙ within in
    rw unneeded (sym (append-nil old))

first_by : (c r : ℕ) (codec : Codec) → plain_start codec - 8 - length (chunks_bytes Little (new_fact codec 0)) ≡ first_place (record { channels = c; rate = r; codec = codec })
unfolding chunks_bytes chunk_bytes head_bytes
first_by c r U8 = refl
first_by c r S8 = refl
first_by c r (S16 order) = refl
first_by c r (S24 order) = refl
first_by c r (S32 order) = refl
first_by c r MuLaw = refl
first_by c r ALaw = refl
first_by c r (Ima align per_block) = refl
first_by c r (Ms align per_block) = refl

-- the first piece stands behind the format
pub first_is : (p : Parameters) → plain_start p.codec - 8 - length (chunks_bytes Little (new_fact p.codec 0)) ≡ first_place p
first_is p = first_by p.channels p.rate p.codec

-- .. and behind the reservation
pub first_with : (r : Option ℕ) (p : Parameters) (start fact lead : ℕ) → start ≡ plain_start p.codec → fact ≡ length (chunks_bytes Little (new_fact p.codec 0)) → lead + 12 ≡ lead_end r → start - 8 - fact + lead ≡ reserved_first r p
first_with r p start fact lead at counted behind = omega (arith, first_is p, at, counted, behind)

pub first_least : (r : Option ℕ) (p : Parameters) → 36 ≤ reserved_first r p
first_least r p = omega (arith, format_size p, lead_bytes r)

-- the count of no frames has 12 bytes, where there is one
pub fact_there : (codec : Codec) (has : Bool) → has ≡ has_fact codec → has ≡ true → 12 ≡ length (chunks_bytes Little (new_fact codec 0))
fact_there codec has is there = sym (fact_bytes codec 0 ∙ ap (λ (t : Bool). cond t 12 0) (sym is ∙ there))

pub fact_missing : (codec : Codec) (has : Bool) → has ≡ has_fact codec → has ≡ false → 0 ≡ length (chunks_bytes Little (new_fact codec 0))
fact_missing codec has is none = sym (fact_bytes codec 0 ∙ ap (λ (t : Bool). cond t 12 0) (sym is ∙ none))

-- what closes a head, put together
pub closing_put : (codec : Codec) (end fact start : ℕ) (none filled counted sound all : List ℕ) → fact ≡ length (chunks_bytes Little (new_fact codec 0)) → start ≡ end + 8 + fact → none ≡ [] → filled ≡ none ++ chunks_bytes Little (filler_at codec start)
    → counted ≡ filled ++ chunks_bytes Little (new_fact codec 0) → sound ≡ counted ++ codes "data" → all ≡ sound ++ bytes_of Little 4 0 → all ≡ closing_behind codec end
unfolding closing_at head_bytes
closing_put codec end fact start none filled counted sound all long at empty one two three four = rw (four, three, two, one, empty, at, long) (simp append_assoc)

-- ---- how a head is split

abbrev pub wave_mark : List ℕ
wave_mark = codes "RIFF"

abbrev pub wave_size : ℕ → List ℕ
wave_size n = bytes_of Little 4 (riff_size n 0)

abbrev pub wave_form : Option ℕ → Parameters → List ℕ
wave_form r p = codes "WAVE" ++ chunks_bytes Little (lead_of r ++ new_format p ∷ [])

regrouped : (s w l c y f n d : List ℕ) → (s ++ w) ++ (l ++ (c ++ (y ++ (f ++ n)))) ++ d ≡ (s ++ (w ++ (l ++ (c ++ [])))) ++ (y ++ (f ++ n ++ d))
regrouped s w l c y f n d = simp (append_assoc, append-nil)

module _ (r : Option ℕ) (p : Parameters) (good : AreParams p) (fits : fit_refusal Wave p ≡ None) where
  none : data_bytes p 0 ≡ 0
  none = no_bytes_yet p good fits

  form_is : wave_form r p ≡ codes "WAVE" ++ (chunks_bytes Little (lead_of r) ++ (chunk_bytes Little (new_format p) ++ []))
  unfolding chunks_bytes
  form_is = ap (λ (l : List ℕ). codes "WAVE" ++ l) (chunks-joined Little (lead_of r) (new_format p ∷ []))

  chunks_are : (pieces f c : List NewChunk) → chunks_bytes Little (lead_of r ++ new_format p ∷ (pieces ++ (f ++ c)))
      ≡ chunks_bytes Little (lead_of r) ++ (chunk_bytes Little (new_format p) ++ (chunks_bytes Little pieces ++ (chunks_bytes Little f ++ chunks_bytes Little c)))
  unfolding chunks_bytes
  chunks_are pieces f c =
      chunks-joined Little (lead_of r) (new_format p ∷ (pieces ++ (f ++ c)))
      ∙ ap (λ (l : List ℕ). chunks_bytes Little (lead_of r) ++ (chunk_bytes Little (new_format p) ++ l)) (chunks-joined Little pieces (f ++ c))
      ∙ ap (λ (l : List ℕ). chunks_bytes Little (lead_of r) ++ (chunk_bytes Little (new_format p) ++ (chunks_bytes Little pieces ++ l))) (chunks-joined Little f c)

  split_by : (pieces : List NewChunk) → reserved_head r p pieces 0
      ≡ (wave_mark ++ wave_size (reserved_size r p pieces) ++ wave_form r p) ++ (chunks_bytes Little pieces ++ closing_at p.codec (reserved_start r p pieces))
  unfolding reserved_head riff_head reserved_chunks closing_at
  split_by pieces =
      ap (λ (n : ℕ). riff_head (riff_size (reserved_size r p pieces) n) ++ chunks_bytes Little (lead_of r ++ new_format p ∷ (pieces ++ (reserved_filler r p pieces ++ new_fact p.codec 0))) ++ head_bytes Little (codes "data") n) none
      ∙ ap (λ (l : List ℕ). riff_head (riff_size (reserved_size r p pieces) 0) ++ l ++ head_bytes Little (codes "data") 0) (chunks_are pieces (reserved_filler r p pieces) (new_fact p.codec 0))
      ∙ regrouped (wave_mark ++ wave_size (reserved_size r p pieces)) (codes "WAVE") (chunks_bytes Little (lead_of r)) (chunk_bytes Little (new_format p)) (chunks_bytes Little pieces) (chunks_bytes Little (reserved_filler r p pieces)) (chunks_bytes Little (new_fact p.codec 0)) (head_bytes Little (codes "data") 0)
      ∙ ap (λ (l : List ℕ). (wave_mark ++ wave_size (reserved_size r p pieces) ++ l) ++ (chunks_bytes Little pieces ++ closing_at p.codec (reserved_start r p pieces))) (sym form_is)

  split : (pieces : List NewChunk) → reserved_head r p pieces 0
      ≡ (wave_mark ++ wave_size (length (reserved_head r p pieces 0)) ++ wave_form r p) ++ (chunks_bytes Little pieces ++ closing_behind p.codec (reserved_first r p + length (chunks_bytes Little pieces)))
  split pieces =
      split_by pieces ∙ ap (λ (n : ℕ). (wave_mark ++ wave_size n ++ wave_form r p) ++ (chunks_bytes Little pieces ++ closing_at p.codec (reserved_start r p pieces))) (sym (length-reserved_head r p pieces 0))
      ∙ ap (λ (n : ℕ). (wave_mark ++ wave_size (length (reserved_head r p pieces 0)) ++ wave_form r p) ++ (chunks_bytes Little pieces ++ closing_at p.codec n)) (start_is r p pieces)

  begins : (n : ℕ) → length (wave_mark ++ wave_size n ++ wave_form r p) ≡ reserved_first r p
  begins n =
      omega (
        arith,
        length-append wave_mark (wave_size n ++ wave_form r p),
        length-append (wave_size n) (wave_form r p),
        ap length form_is,
        length-append (codes "WAVE") (chunks_bytes Little (lead_of r) ++ (chunk_bytes Little (new_format p) ++ [])),
        length-append (chunks_bytes Little (lead_of r)) (chunk_bytes Little (new_format p) ++ []),
        length-append (chunk_bytes Little (new_format p)) [],
        length-chunk_bytes Little (new_format p) (lead_end r) refl,
        lead_bytes r,
      )

  pub wave_split : IsSplit (reserved_heads r) p Little (reserved_first r p) wave_mark (wave_form r p) wave_size (closing_behind p.codec)
  wave_split = record { split = split; first_is = begins; wide = λ m n. refl }

  -- the new layout
  pub new_shape : (start : ℕ) (pieces : List NewChunk) (anew : List Piece) → start ≡ length (reserved_head r p pieces 0) → anew ≡ standing (reserved_first r p) pieces → head_shape r p start anew ≡ reserved_shape r p pieces 0
  unfolding reserved_shape reserved_pieces standing
  new_shape start pieces anew starts stand =
      ap (λ (k : ℕ). head_shape r p k anew) (starts ∙ length-reserved_head r p pieces 0) ∙ ap (λ (l : List Piece). head_shape r p (reserved_size r p pieces) l) stand
      ∙ ap (λ (n : ℕ). record (head_shape r p (reserved_size r p pieces) (reserved_pieces r p pieces)) { declared = n }) (sym none)

pub first_most : (r : Option ℕ) (p : Parameters) → MayReserve r p.codec → reserved_first r p ≤ 126
first_most r p may = omega (arith, lead_most r p.codec may, format_few p)

-- what is reserved in the head of a file stands before its data
pub reserve_stands : (r : Option ℕ) (p : Parameters) (start : ℕ) → MayReserve r p.codec → reserved_first r p + 8 ≤ start → IfSome r (IsReserve Wave p.codec start)
reserve_stands None p start may behind = tt
reserve_stands (Some len) p start may behind = record { is_wave = refl; fixed = may.1; least = omega (arith, may.0); few = omega (arith, may.0); before = omega (arith, behind) }

-- how it is closed
pub closes : (p q : Parameters) (end : ℕ) (close : Closing) → q ≡ p → end + 4096 ≤ 16777216 → close.order ≡ Little → close.bytes.items ≡ closing_behind q.codec end → length close.bytes.items ≤ 38 → close.size_at ≡ 4 → close.size.items ≡ bytes_of Little 4 (end + length close.bytes.items - 8)
    → Closes Little wave_mark wave_size (closing_behind p.codec) end close
closes p q end close same low order bytes few there size =
    let riff : end + length close.bytes.items - 8 ≡ riff_size (end + length close.bytes.items) 0 = omega (arith, low, few) in
    record { ordered = order; there = there; closed = bytes ∙ ap (λ (r : Parameters). closing_behind r.codec end) same; sized = size ∙ ap (bytes_of Little 4) riff }

-- ---- what the layout of a head says

piece_small : (piece : NewChunk) → MayBePiece piece → IsSmall piece
piece_small piece is = record { four = is.four; few = is.few }

pub small : (piece : NewChunk) → MayBePiece piece → IsSmall piece
small piece is = piece_small piece is

module _ (r : Option ℕ) (h : Shape) (p : Parameters) (pieces : List NewChunk) (is : IsLayoutIn (reserved_heads r) h p pieces) where
  pub reserved_params : h.params ≡ p
  unfolding reserved_shape
  reserved_params = ap (λ (s : Shape). s.params) is.shape

  pub reserved_stand : AreStanding (reserved_first r p) h.pieces pieces
  unfolding reserved_shape reserved_pieces standing
  reserved_stand = record { small = All-weaker MayBePiece IsSmall piece_small pieces is.may.pieces_are; few = is.may.few; stand = ap (λ (s : Shape). s.pieces) is.shape }

  pub reserved_may : (place : ℕ) (piece : NewChunk) → MayBePiece piece → place ≤ length pieces → place < 240 → MayBeReserved r p (with_piece pieces place piece) 0
  reserved_may place piece may within few =
      let none : data_bytes p 0 ≡ 0 = no_bytes_yet p is.may.params is.may.fits in
      record {
        params = is.may.params;
        fits = is.may.fits;
        pieces_are = new_are pieces place piece MayBePiece is.may.pieces_are may;
        few = new_few pieces place piece within few is.may.few;
        in_room = omega (arith, none);
        counted = λ adpcm. omega arith;
        reserved = is.may.reserved;
      }

-- .. of a head without a reservation
module _ (h : Shape) (p : Parameters) (pieces : List NewChunk) (is : IsLayoutIn wave_heads h p pieces) where
  pub made_params : h.params ≡ p
  made_params = reserved_params None h p pieces is

  pub stands : AreStanding (first_place p) h.pieces pieces
  stands = reserved_stand None h p pieces is

  pub new_may : (place : ℕ) (piece : NewChunk) → MayBePiece piece → place ≤ length pieces → place < 240 → MayBeMade p (with_piece pieces place piece) 0
  new_may place piece may within few = reserved_may None h p pieces is place piece may within few
