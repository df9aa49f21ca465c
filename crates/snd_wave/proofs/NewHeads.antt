-- The head that is written: its parts, and where they stand.
use Rattle.std.proofs.Common.{◌≡◌, ◌⊎◌, ℕ, ◌+◌, ◌-◌, ◌/◌, ◌≤◌, List, [], ◌∷◌, ◌++◌, All, Option, None, Some, true, false, length, refl, inl, inr, arith, length-append}
use Rattle.std.proofs.lemmas.Bool.{cases_Bool, eq-eqb, or_parts}
use Rattle.std.proofs.lemmas.List.{length-replicate}
use Rattle.std.proofs.lemmas.List.Elements.{All-append, All-cons, All-nil, All-weaker}
use Rattle.std.specs.Prelude.{codes, if◌then◌else◌, replicate}
use Rattle.std.specs.Str.{bytes_eq}
use Rattle.snd_chunks.proofs.Public.{length-chunk_bytes, length-chunks_bytes, MayPrecede}
use Rattle.snd_chunks.specs.Written.{NewChunk, chunk_bytes, chunks_bytes, head_bytes, placed}
use Rattle.snd_fields.specs.declared.field.Order.TheVariants.{Little}
use Rattle.snd_layout.specs.Blocks.{is_adpcm}
use Rattle.snd_layout.specs.Params.{Parameters}
use Rattle.snd_layout.specs.Sector.{is_in_one_sector}
use Rattle.snd_layout.specs.Written.{extension, written_format}
use Rattle.snd_layout.specs.declared.codec.Codec.{Codec}
use Rattle.snd_layout.specs.declared.codec.Codec.TheVariants.{U8, S8, S16, S24, S32, MuLaw, ALaw, Ima, Ms}
use Rattle.snd_wave.proofs.Relaying.{length-joined}
use Rattle.snd_wave.specs.Layout.{is_own}
use Rattle.snd_wave.specs.Written.{MadeInOneSector, MayBePiece, MayReserve, ReservedInOneSector, filler, has_fact, head_size, inner_size, junk, lead_end, lead_of, new_fact, new_format, reserved_chunks, reserved_filler, reserved_first, reserved_size, reserved_start, start_without_filler}

-- a format has 16 to 50 bytes
extension_few : (codec : Codec) → length (extension codec) ≤ 34
extension_few U8 = omega arith
extension_few S8 = omega arith
extension_few (S16 order) = omega arith
extension_few (S24 order) = omega arith
extension_few (S32 order) = omega arith
extension_few MuLaw = omega arith
extension_few ALaw = omega arith
extension_few (Ima align per_block) = omega arith
extension_few (Ms align per_block) = omega arith

pub format_size : (p : Parameters) → length (written_format p) ≡ 16 + length (extension p.codec)
format_size p = omega arith

pub format_few : (p : Parameters) → length (written_format p) ≤ 50
format_few p = omega (arith, format_size p, extension_few p.codec)

-- a piece is none of the library's own chunks
pub not_data : (id : List ℕ) → is_own (placed id 0 0) ≡ false → bytes_eq id (codes "data") ≡ false
not_data id other = (or_parts _ _ (or_parts _ _ (or_parts _ _ (or_parts _ _ (or_parts _ _ (or_parts _ _ other).0).0).0).0).0).1

pub not_fact : (id : List ℕ) → is_own (placed id 0 0) ≡ false → bytes_eq id (codes "fact") ≡ false
not_fact id other = (or_parts _ _ (or_parts _ _ (or_parts _ _ (or_parts _ _ (or_parts _ _ (or_parts _ _ (or_parts _ _ other).0).0).0).0).0).0).1

piece_precedes : (piece : NewChunk) → MayBePiece piece → MayPrecede (codes "data") piece
piece_precedes piece is = record { four = is.four; few = omega (arith, is.few); other = not_data piece.id is.other }

format_precedes : (p : Parameters) → MayPrecede (codes "data") (new_format p)
format_precedes p = record { four = refl; few = omega (arith, format_few p); other = refl }

fact_precedes : (codec : Codec) (frames : ℕ) → All (MayPrecede (codes "data")) (new_fact codec frames)
fact_precedes codec frames = elim (cases_Bool (has_fact codec)) [
  | inl is ↦ rw is (All-cons (MayPrecede (codes "data")) _ [] (record { four = refl; few = omega arith; other = refl }) (All-nil (MayPrecede (codes "data"))))
  | inr other ↦ rw other (All-nil (MayPrecede (codes "data")))
]

lead_precedes : (r : Option ℕ) (codec : Codec) → MayReserve r codec → All (MayPrecede (codes "data")) (lead_of r)
lead_precedes None codec may = All-nil (MayPrecede (codes "data"))
lead_precedes (Some len) codec may =
    All-cons (MayPrecede (codes "data")) _ [] (record { four = refl; few = omega (arith, may.0, length-replicate {A = ℕ} len 0); other = refl }) (All-nil (MayPrecede (codes "data")))

filler_precedes : (r : Option ℕ) (p : Parameters) (pieces : List NewChunk) → All (MayPrecede (codes "data")) (reserved_filler r p pieces)
filler_precedes r p pieces = elim (cases_Bool (is_in_one_sector (reserved_start r p pieces - inner_size p.codec) (inner_size p.codec))) [
  | inl is ↦ rw is (All-nil (MayPrecede (codes "data")))
  | inr other ↦ rw other (All-cons (MayPrecede (codes "data")) junk [] (record { four = refl; few = omega arith; other = refl }) (All-nil (MayPrecede (codes "data"))))
]

pub all_precede : (r : Option ℕ) (p : Parameters) (pieces : List NewChunk) (frames : ℕ) → MayReserve r p.codec → All MayBePiece pieces → All (MayPrecede (codes "data")) (reserved_chunks r p pieces frames)
unfolding reserved_chunks
all_precede r p pieces frames may are =
    All-append (MayPrecede (codes "data")) (lead_of r) _ (lead_precedes r p.codec may)
    (All-cons (MayPrecede (codes "data")) (new_format p) _ (format_precedes p)
    (All-append (MayPrecede (codes "data")) pieces _ (All-weaker MayBePiece (MayPrecede (codes "data")) piece_precedes pieces are)
    (All-append (MayPrecede (codes "data")) (reserved_filler r p pieces) (new_fact p.codec frames) (filler_precedes r p pieces) (fact_precedes p.codec frames))))

lead_few : (r : Option ℕ) → length (lead_of r) ≤ 1
lead_few None = omega arith
lead_few (Some len) = omega arith

filler_few : (r : Option ℕ) (p : Parameters) (pieces : List NewChunk) → length (reserved_filler r p pieces) ≤ 1
filler_few r p pieces = elim (cases_Bool (is_in_one_sector (reserved_start r p pieces - inner_size p.codec) (inner_size p.codec))) [
  | inl is ↦ rw is (omega arith)
  | inr other ↦ rw other (omega arith)
]

fact_few : (codec : Codec) (frames : ℕ) → length (new_fact codec frames) ≤ 1
fact_few codec frames = elim (cases_Bool (has_fact codec)) [
  | inl is ↦ rw is (omega arith)
  | inr other ↦ rw other (omega arith)
]

pub chunks_few : (r : Option ℕ) (p : Parameters) (pieces : List NewChunk) (frames : ℕ) → length (reserved_chunks r p pieces frames) ≤ length pieces + 4
unfolding reserved_chunks
chunks_few r p pieces frames =
    omega (
      arith,
      length-append (lead_of r) (new_format p ∷ (pieces ++ (reserved_filler r p pieces ++ new_fact p.codec frames))),
      length-append pieces (reserved_filler r p pieces ++ new_fact p.codec frames),
      length-append (reserved_filler r p pieces) (new_fact p.codec frames),
      lead_few r,
      filler_few r p pieces,
      fact_few p.codec frames,
    )

-- the bytes of joined chunks are joined
pub bytes-append : (xs ys : List NewChunk) → length (chunks_bytes Little (xs ++ ys)) ≡ length (chunks_bytes Little xs) + length (chunks_bytes Little ys)
bytes-append xs ys = length-joined Little xs ys

pub no_bytes : length (chunks_bytes Little []) ≡ 0
unfolding chunks_bytes
no_bytes = refl

-- the count has 12 bytes, whatever it is
pub fact_bytes : (codec : Codec) (frames : ℕ) → length (chunks_bytes Little (new_fact codec frames)) ≡ (if has_fact codec then 12 else 0)
unfolding chunks_bytes chunk_bytes head_bytes
fact_bytes codec frames = elim (cases_Bool (has_fact codec)) [
  | inl is ↦ rw is refl
  | inr other ↦ rw other refl
]

-- the format stands behind the reservation
pub lead_bytes : (r : Option ℕ) → 12 + length (chunks_bytes Little (lead_of r)) ≡ lead_end r
unfolding chunks_bytes
lead_bytes None = refl
lead_bytes (Some len) =
    omega (
      arith,
      length-chunks_bytes Little (record { id = codes "JUNK"; body = replicate len 0 }) [],
      length-chunk_bytes Little (record { id = codes "JUNK"; body = replicate len 0 }) 12 refl,
      length-replicate {A = ℕ} len 0,
    )

-- a reservation that is made has 36 bytes, with its head
pub lead_most : (r : Option ℕ) (codec : Codec) → MayReserve r codec → lead_end r ≤ 48
lead_most None codec may = omega arith
lead_most (Some len) codec may = omega (arith, may.0)

filler_bytes : (r : Option ℕ) (p : Parameters) (pieces : List NewChunk) → is_in_one_sector (reserved_start r p pieces - inner_size p.codec) (inner_size p.codec) ≡ false
    → length (chunks_bytes Little (reserved_filler r p pieces)) ≡ 16
unfolding chunks_bytes chunk_bytes head_bytes
filler_bytes r p pieces other = rw other refl

no_filler_bytes : (r : Option ℕ) (p : Parameters) (pieces : List NewChunk) → is_in_one_sector (reserved_start r p pieces - inner_size p.codec) (inner_size p.codec) ≡ true
    → length (chunks_bytes Little (reserved_filler r p pieces)) ≡ 0
unfolding chunks_bytes
no_filler_bytes r p pieces is = rw is refl

module _ (r : Option ℕ) (p : Parameters) (pieces : List NewChunk) where
  -- the bytes of the chunks before the data, by their parts
  chunks_size : (frames : ℕ) → length (chunks_bytes Little (reserved_chunks r p pieces frames))
      ≡ length (chunks_bytes Little (lead_of r ++ new_format p ∷ pieces)) + length (chunks_bytes Little (reserved_filler r p pieces)) + length (chunks_bytes Little (new_fact p.codec frames))
  unfolding reserved_chunks
  chunks_size frames =
      omega (
        arith,
        bytes-append (lead_of r) (new_format p ∷ (pieces ++ (reserved_filler r p pieces ++ new_fact p.codec frames))),
        bytes-append (lead_of r) (new_format p ∷ pieces),
        bytes-append (new_format p ∷ pieces) (reserved_filler r p pieces ++ new_fact p.codec frames),
        bytes-append (reserved_filler r p pieces) (new_fact p.codec frames),
      )

  pub size_is : (frames : ℕ) → reserved_size r p pieces ≡ 20 + length (chunks_bytes Little (reserved_chunks r p pieces frames))
  unfolding reserved_size
  size_is frames = omega (arith, chunks_size 0, chunks_size frames, fact_bytes p.codec 0, fact_bytes p.codec frames)

  pub reserved_with : reserved_size r p pieces ≡ reserved_start r p pieces + length (chunks_bytes Little (reserved_filler r p pieces))
  unfolding reserved_size reserved_start
  reserved_with = omega (arith, chunks_size 0)

  -- where the data would begin without a filler
  pub start_is : reserved_start r p pieces ≡ reserved_first r p + length (chunks_bytes Little pieces) + 8 + length (chunks_bytes Little (new_fact p.codec 0))
  unfolding reserved_start
  start_is =
      omega (
        arith,
        lead_bytes r,
        bytes-append (lead_of r) (new_format p ∷ pieces),
        length-chunks_bytes Little (new_format p) pieces,
        length-chunk_bytes Little (new_format p) (lead_end r) refl,
      )

  size_some : 44 ≤ reserved_start r p pieces
  size_some = omega (arith, start_is, lead_bytes r, format_size p)

  pub size_least : 44 ≤ reserved_size r p pieces
  size_least = omega (arith, reserved_with, size_some)

-- .. in a head without a reservation
pub size_with : (p : Parameters) (pieces : List NewChunk) → head_size p pieces ≡ start_without_filler p pieces + length (chunks_bytes Little (filler p pieces))
size_with p pieces = reserved_with None p pieces

inner_few : (codec : Codec) → (inner_size codec ≡ 4) ⊎ (inner_size codec ≡ 12)
inner_few codec = elim (cases_Bool (is_adpcm codec)) [
  | inl is ↦ rw is (inr refl)
  | inr other ↦ rw other (inl refl)
]

moved : (at size : ℕ) → 1 ≤ size → size ≤ 16 → is_in_one_sector at size ≡ false → is_in_one_sector (at + 16) size ≡ true
moved at size some few apart =
    let ends : (at / 512 ≡ (at + size - 1) / 512) → ⊥ = λ same. absurd (let h = eq-eqb (at / 512) ((at + size - 1) / 512) same in cc) in
    eq-eqb ((at + 16) / 512) ((at + 16 + size - 1) / 512) (omega (arith, ends))

pub reserved_in_one_sector : ReservedInOneSector
reserved_in_one_sector r p pieces = elim (cases_Bool (is_in_one_sector (reserved_start r p pieces - inner_size p.codec) (inner_size p.codec))) [
  | inl is ↦
      let size : reserved_size r p pieces ≡ reserved_start r p pieces = omega (arith, reserved_with r p pieces, no_filler_bytes r p pieces is) in
      rw size is
  | inr other ↦
      let few : (4 ≤ inner_size p.codec) × (inner_size p.codec ≤ 12) = elim (inner_few p.codec) [ inl four ↦ (omega arith, omega arith) | inr twelve ↦ (omega arith, omega arith) ] in
      let size : reserved_size r p pieces - inner_size p.codec ≡ reserved_start r p pieces - inner_size p.codec + 16 = omega (arith, reserved_with r p pieces, filler_bytes r p pieces other, size_some r p pieces, few) in
      rw size (moved (reserved_start r p pieces - inner_size p.codec) (inner_size p.codec) (omega (arith, few)) (omega (arith, few)) other)
]

pub made_in_one_sector : MadeInOneSector
made_in_one_sector p pieces may = reserved_in_one_sector None p pieces
