-- What is made reads back.
use Rattle.std.proofs.Common.{◌≡◌, ℕ, ◌+◌, ◌-◌, ◌*◌, ◌/◌, ◌%◌, ◌<◌, ◌≤◌, ◌^◌, List, [], ◌∷◌, ◌++◌, All, Bool, true, false, not, ◌&&◌, Option, None, Some, Ok, length, get_or, refl, sym, subst, ap, ◌∙◌, inl, inr, arith, length-append}
use Rattle.std.proofs.Math.Nat.{mod-lt}
use Rattle.std.proofs.lemmas.Bool.{and_left, cases_Bool, eq-eqb, le-leb, le-ltb}
use Rattle.std.proofs.lemmas.List.{append-nil, get_or_append_left, length-replicate}
use Rattle.std.proofs.lemmas.List.Elements.{All-head, All-tail}
use Rattle.std.proofs.lemmas.Nat.{div-add-mod', div-mul-add, div_below}
use Rattle.std.specs.List.{filter, find}
use Rattle.std.specs.Prelude.{◌==◌, codes, map, nat_le, option_map, if◌then◌else◌}
use Rattle.snd_disk.specs.Runs.{HasAt}
use Rattle.snd_chunks.proofs.Public.{chain_written, has_body, has_first, has_left, has_number, has_others, has_part, has_right, head_written, length-all_placed, length-chunk_bytes, length-chunks_bytes, length-head_bytes, no_tail, refused, walks}
use Rattle.snd_chunks.specs.declared.chunk.Chunk.{Chunk}
use Rattle.snd_chunks.specs.declared.front.Ending.TheVariants.{AtSound}
use Rattle.snd_chunks.specs.declared.front.Front.{Front}
use Rattle.snd_chunks.specs.Chunks.{chunk_at, padded_end}
use Rattle.snd_chunks.specs.Written.{NewChunk, all_placed, chunk_bytes, chunks_bytes, head_bytes, pad, placed}
use Rattle.snd_fields.specs.Field.{bytes_of, number}
use Rattle.snd_fields.specs.declared.field.Order.TheVariants.{Little}
use Rattle.snd_layout.proofs.Frames.{blocks_have_frames}
use Rattle.snd_layout.proofs.RoundTrips.{written_format_reads_back}
use Rattle.snd_layout.specs.Blocks.{block_align, block_frames, is_adpcm}
use Rattle.snd_layout.specs.Fit.{fit_refusal}
use Rattle.snd_layout.specs.Format.{format_of}
use Rattle.snd_layout.specs.Params.{AreParams, Parameters, data_bytes}
use Rattle.snd_layout.specs.Sector.{is_in_one_sector}
use Rattle.snd_layout.specs.Shape.{Shape}
use Rattle.snd_layout.specs.Written.{written_format}
use Rattle.snd_layout.specs.declared.codec.Codec.{Codec}
use Rattle.snd_layout.specs.declared.codec.Codec.TheVariants.{U8, S8, S16, S24, S32, MuLaw, ALaw, Ima, Ms}
use Rattle.snd_layout.specs.declared.field.Field.{Field}
use Rattle.snd_layout.specs.declared.kind.Kind.TheVariants.{Wave}
use Rattle.snd_layout.specs.declared.piece.Piece.{Piece}
use Rattle.snd_chunks.specs.Parts.{body_of, fact_chunk, fact_count, format_chunk, frame_count, held, inner_field, is_fact, is_format, side_field, whole_frames}
use Rattle.snd_wave.specs.Layout.{data_end, is_own, outer_end, piece_of, pieces_of, reserve_of, wave_front, wave_layout, wave_shape, wave_tail}
use Rattle.snd_wave.specs.Values.{riff_size}
use Rattle.snd_wave.specs.Written.{HeadHasItsSize, HeadReadsBack, MadeReadsBack, MayBePiece, MayBeReserved, MayReserve, ReservedHeadHasItsSize, ReservedHeadReadsBack, ReservedReadsBack, has_fact, head_for, head_size, inner_size, lead_end, lead_of, new_fact, new_format, reserved_chunks, reserved_filler, reserved_first, reserved_head, reserved_made, reserved_pieces, reserved_shape, reserved_size, reserved_start, riff_head}
use Rattle.snd_wave.proofs.NewHeads.{all_precede, bytes-append, chunks_few, fact_bytes, format_size, lead_bytes, not_fact, reserved_with, size_is, size_least, start_is}
use Rattle.snd_wave.proofs.Opens.{Opens, opened}
use Rattle.snd_wave.proofs.Shapes.{blocks_have_bytes}

pub length-riff_head : (size : ℕ) → length (riff_head size) ≡ 12
unfolding riff_head
length-riff_head size = refl

module _ (r : Option ℕ) (p : Parameters) (pieces : List NewChunk) (n : ℕ) where
  pub length-reserved_head : length (reserved_head r p pieces n) ≡ reserved_size r p pieces
  unfolding reserved_head
  length-reserved_head =
      let riff : List ℕ = riff_head (riff_size (reserved_size r p pieces) (data_bytes p n)) in
      let chunks : List ℕ = chunks_bytes Little (reserved_chunks r p pieces n) in
      omega (
        arith,
        length-append (riff ++ chunks) (head_bytes Little (codes "data") (data_bytes p n)),
        length-append riff chunks,
        length-riff_head (riff_size (reserved_size r p pieces) (data_bytes p n)),
        size_is r p pieces n,
        length-head_bytes Little (codes "data") (data_bytes p n) refl,
      )

  pub has_chunks : (b : List ℕ) → HasAt b 0 (reserved_head r p pieces n) → HasAt b 12 (chunks_bytes Little (reserved_chunks r p pieces n))
  unfolding reserved_head
  has_chunks b has =
      has_right b 0 12 (riff_head (riff_size (reserved_size r p pieces) (data_bytes p n))) (chunks_bytes Little (reserved_chunks r p pieces n))
      (omega (arith, length-riff_head (riff_size (reserved_size r p pieces) (data_bytes p n))))
      (has_left b 0 (riff_head (riff_size (reserved_size r p pieces) (data_bytes p n)) ++ chunks_bytes Little (reserved_chunks r p pieces n)) (head_bytes Little (codes "data") (data_bytes p n)) has)

  pub has_data : (b : List ℕ) (q : ℕ) → reserved_size r p pieces ≡ q + 8 → HasAt b 0 (reserved_head r p pieces n) → HasAt b q (head_bytes Little (codes "data") (data_bytes p n))
  unfolding reserved_head
  has_data b q at has =
      has_right b 0 q (riff_head (riff_size (reserved_size r p pieces) (data_bytes p n)) ++ chunks_bytes Little (reserved_chunks r p pieces n)) (head_bytes Little (codes "data") (data_bytes p n))
      (omega (arith, at, size_is r p pieces n, length-append (riff_head (riff_size (reserved_size r p pieces) (data_bytes p n))) (chunks_bytes Little (reserved_chunks r p pieces n)), length-riff_head (riff_size (reserved_size r p pieces) (data_bytes p n))))
      has

  -- the walk up to the data sees the chunks that were written
  pub front_made : (b : List ℕ) (q : ℕ) → reserved_size r p pieces ≡ q + 8 → MayBeReserved r p pieces n → HasAt b 0 (reserved_head r p pieces n) → reserved_size r p pieces ≤ length b
      → wave_front b ≡ record { chunks = all_placed 12 (reserved_chunks r p pieces n); ending = AtSound (placed (codes "data") q (data_bytes p n)) }
  unfolding wave_front
  front_made b q at may has within =
      walks (chunk_at Little b) (codes "data") (length b) 257 12 (all_placed 12 (reserved_chunks r p pieces n)) q (placed (codes "data") q (data_bytes p n))
      (chain_written Little b (codes "data") 12 q (reserved_chunks r p pieces n) (all_precede r p pieces n may.reserved may.pieces_are) (omega (arith, at, size_is r p pieces n)) (omega (arith, at)) (has_chunks b has))
      (head_written Little b (codes "data") q (data_bytes p n) refl (omega (arith, may.in_room, size_least r p pieces)) (omega (arith, at)) (has_data b q at has))
      refl
      (omega (arith, length-all_placed 12 (reserved_chunks r p pieces n), chunks_few r p pieces n, may.few))

pub length-head_for : (p : Parameters) (pieces : List NewChunk) (n : ℕ) → length (head_for p pieces n) ≡ head_size p pieces
length-head_for p pieces n = length-reserved_head None p pieces n

-- the chunk that is reserved, as it is read
abbrev lead_placed : Option ℕ → List Chunk
lead_placed None = []
lead_placed (Some len) = placed (codes "JUNK") 12 len ∷ []

behind_lead : (r : Option ℕ) (rest : List NewChunk) → all_placed 12 (lead_of r ++ rest) ≡ lead_placed r ++ all_placed (lead_end r) rest
unfolding all_placed
behind_lead None rest = refl
behind_lead (Some len) rest = ap (λ (k : ℕ). placed (codes "JUNK") 12 k ∷ all_placed (padded_end 20 k) rest) (length-replicate {A = ℕ} len 0)

-- it is no format and no `fact`, and none of the pieces
no_format : (r : Option ℕ) (chunks : List Chunk) → format_chunk (lead_placed r ++ chunks) ≡ format_chunk chunks
no_format None chunks = refl
no_format (Some len) chunks = refl

no_fact : (r : Option ℕ) (chunks : List Chunk) → fact_chunk 4 (lead_placed r ++ chunks) ≡ fact_chunk 4 chunks
no_fact None chunks = refl
no_fact (Some len) chunks = refl

no_piece : (r : Option ℕ) (chunks : List Chunk) → pieces_of false (lead_placed r ++ chunks) ≡ pieces_of false chunks
no_piece None chunks = refl
no_piece (Some len) chunks = refl

-- and it is the reservation
is_reserved : (r : Option ℕ) (p : Parameters) (place len : ℕ) (chunks : List Chunk) → MayReserve r p.codec → reserve_of p (lead_placed r ++ placed (codes "fmt ") place len ∷ chunks) ≡ r
is_reserved None p place len chunks may = elim (cases_Bool (not (is_adpcm p.codec) && (place + 8 == 20))) [
  | inl is ↦ rw is refl
  | inr other ↦ rw other refl
]
is_reserved (Some size) p place len chunks may =
    let long : nat_le 28 size ≡ true = le-leb 28 size (omega (arith, may.0)) in
    rw (may.1, long) refl

-- no piece is the `fact`
past_pieces : (place : ℕ) (pieces rest : List NewChunk) → All MayBePiece pieces → find (is_fact 4) (all_placed place (pieces ++ rest)) ≡ find (is_fact 4) (all_placed (place + length (chunks_bytes Little pieces)) rest)
unfolding all_placed chunks_bytes
past_pieces place [] rest are = let same : place ≡ place + 0 = omega arith in ap (λ k. find (is_fact 4) (all_placed k rest)) same
past_pieces place (piece ∷ pieces) rest are =
    let is : MayBePiece piece = All-head MayBePiece piece pieces are in
    let none : is_fact 4 (placed piece.id place (length piece.body)) ≡ false = and_left _ _ (not_fact piece.id is.other) in
    let later : padded_end (place + 8) (length piece.body) + length (chunks_bytes Little pieces) ≡ place + length (chunks_bytes Little (piece ∷ pieces)) =
    omega (arith, length-chunks_bytes Little piece pieces, length-chunk_bytes Little piece place is.four) in
    rw none (past_pieces (padded_end (place + 8) (length piece.body)) pieces rest (All-tail MayBePiece piece pieces are) ∙ ap (λ k. find (is_fact 4) (all_placed k rest)) later)

-- and each is kept
kept_pieces : (place : ℕ) (pieces rest : List NewChunk) → All MayBePiece pieces
    → filter (λ chunk. not (is_own chunk)) (all_placed place (pieces ++ rest)) ≡ all_placed place pieces ++ filter (λ chunk. not (is_own chunk)) (all_placed (place + length (chunks_bytes Little pieces)) rest)
unfolding all_placed chunks_bytes
kept_pieces place [] rest are = let same : place ≡ place + 0 = omega arith in ap (λ k. filter (λ chunk. not (is_own chunk)) (all_placed k rest)) same
kept_pieces place (piece ∷ pieces) rest are =
    let is : MayBePiece piece = All-head MayBePiece piece pieces are in
    let other : is_own (placed piece.id place (length piece.body)) ≡ false = is.other in
    let later : padded_end (place + 8) (length piece.body) + length (chunks_bytes Little pieces) ≡ place + length (chunks_bytes Little (piece ∷ pieces)) =
    omega (arith, length-chunks_bytes Little piece pieces, length-chunk_bytes Little piece place is.four) in
    rw other (ap (λ (l : List Chunk). placed piece.id place (length piece.body) ∷ l)
    (kept_pieces (padded_end (place + 8) (length piece.body)) pieces rest (All-tail MayBePiece piece pieces are)
    ∙ ap (λ k. all_placed (padded_end (place + 8) (length piece.body)) pieces ++ filter (λ chunk. not (is_own chunk)) (all_placed k rest)) later))

module _ (r : Option ℕ) (p : Parameters) (pieces : List NewChunk) (n : ℕ) where
  past_filler : (k : ℕ) → find (is_fact 4) (all_placed k (reserved_filler r p pieces ++ new_fact p.codec n)) ≡ find (is_fact 4) (all_placed (k + length (chunks_bytes Little (reserved_filler r p pieces))) (new_fact p.codec n))
  unfolding all_placed chunks_bytes chunk_bytes head_bytes
  past_filler k = elim (cases_Bool (is_in_one_sector (reserved_start r p pieces - inner_size p.codec) (inner_size p.codec))) [
    | inl is ↦ rw is (let same : k ≡ k + 0 = omega arith in ap (λ i. find (is_fact 4) (all_placed i (new_fact p.codec n))) same)
    | inr other ↦ rw other (let same : padded_end (k + 8) 8 ≡ k + 16 = omega arith in ap (λ i. find (is_fact 4) (all_placed i (new_fact p.codec n))) same)
  ]

  none_kept : (k : ℕ) → filter (λ chunk. not (is_own chunk)) (all_placed k (reserved_filler r p pieces ++ new_fact p.codec n)) ≡ []
  unfolding all_placed
  none_kept k = elim (cases_Bool (is_in_one_sector (reserved_start r p pieces - inner_size p.codec) (inner_size p.codec))) [
    | inl is ↦ elim (cases_Bool (has_fact p.codec)) [ inl has ↦ rw (is, has) refl | inr none ↦ rw (is, none) refl ]
    | inr other ↦ elim (cases_Bool (has_fact p.codec)) [ inl has ↦ rw (other, has) refl | inr none ↦ rw (other, none) refl ]
  ]

  fact_at : (k : ℕ) → find (is_fact 4) (all_placed k (new_fact p.codec n)) ≡ (if has_fact p.codec then Some (placed (codes "fact") k 4) else None)
  unfolding all_placed
  fact_at k = elim (cases_Bool (has_fact p.codec)) [ inl has ↦ rw has refl | inr none ↦ rw none refl ]

  -- behind the pieces and the filler
  unfoldable pub fact_head : ℕ
  fact_head = reserved_first r p + length (chunks_bytes Little pieces) + length (chunks_bytes Little (reserved_filler r p pieces))

  pub format_found : format_chunk (all_placed 12 (reserved_chunks r p pieces n)) ≡ Some (placed (codes "fmt ") (lead_end r) (length (written_format p)))
  unfolding all_placed reserved_chunks
  format_found = ap format_chunk (behind_lead r (new_format p ∷ (pieces ++ (reserved_filler r p pieces ++ new_fact p.codec n)))) ∙ no_format r _

  pub fact_found : All MayBePiece pieces → fact_chunk 4 (all_placed 12 (reserved_chunks r p pieces n)) ≡ (if has_fact p.codec then Some (placed (codes "fact") fact_head 4) else None)
  unfolding all_placed reserved_chunks fact_head
  fact_found are =
      ap (fact_chunk 4) (behind_lead r (new_format p ∷ (pieces ++ (reserved_filler r p pieces ++ new_fact p.codec n)))) ∙ no_fact r _
      ∙ past_pieces (reserved_first r p) pieces (reserved_filler r p pieces ++ new_fact p.codec n) are
      ∙ past_filler (reserved_first r p + length (chunks_bytes Little pieces)) ∙ fact_at fact_head

  pub pieces_found : All MayBePiece pieces → pieces_of false (all_placed 12 (reserved_chunks r p pieces n)) ≡ reserved_pieces r p pieces
  unfolding all_placed reserved_chunks reserved_pieces
  pieces_found are =
      ap (pieces_of false) (behind_lead r (new_format p ∷ (pieces ++ (reserved_filler r p pieces ++ new_fact p.codec n)))) ∙ no_piece r _
      ∙ ap (map (piece_of false)) (kept_pieces (reserved_first r p) pieces (reserved_filler r p pieces ++ new_fact p.codec n) are
      ∙ ap (λ (l : List Chunk). all_placed (reserved_first r p) pieces ++ l) (none_kept (reserved_first r p + length (chunks_bytes Little pieces)))
      ∙ append-nil (all_placed (reserved_first r p) pieces))

  pub reserve_found : MayReserve r p.codec → reserve_of p (all_placed 12 (reserved_chunks r p pieces n)) ≡ r
  unfolding all_placed reserved_chunks
  reserve_found may =
      ap (reserve_of p) (behind_lead r (new_format p ∷ (pieces ++ (reserved_filler r p pieces ++ new_fact p.codec n)))) ∙ is_reserved r p (lead_end r) (length (written_format p)) _ may

  pub fact_stands : has_fact p.codec ≡ true → reserved_size r p pieces ≡ fact_head + 20
  unfolding fact_head
  fact_stands has =
      let fact : length (chunks_bytes Little (new_fact p.codec 0)) ≡ 12 = fact_bytes p.codec 0 ∙ rw has refl in
      omega (arith, reserved_with r p pieces, start_is r p pieces, fact)

-- the frames that so many bytes have
pub fixed_frames : (codec : Codec) → is_adpcm codec ≡ false → block_frames codec ≡ 1
fixed_frames U8 other = refl
fixed_frames S8 other = refl
fixed_frames (S16 order) other = refl
fixed_frames (S24 order) other = refl
fixed_frames (S32 order) other = refl
fixed_frames MuLaw other = refl
fixed_frames ALaw other = refl
fixed_frames (Ima align per_block) other = absurd (cc)
fixed_frames (Ms align per_block) other = absurd (cc)

blocks_of : (q a : ℕ) → 1 ≤ a → q * a / a ≡ q
blocks_of q a some = let same : q * a ≡ q * a + 0 = omega arith in ap (λ k. k / a) same ∙ div-mul-add q a 0 (omega arith)

blocks_hold : (n b : ℕ) → 1 ≤ b → n ≤ (n + b - 1) / b * b
blocks_hold n b some =
    let rest : (n + b - 1) % b < b = mod-lt (n + b - 1) (omega arith) in
    omega (arith, div-add-mod' (n + b - 1) b, rest)

whole_of : (p : Parameters) (n : ℕ) → AreParams p → fit_refusal Wave p ≡ None → whole_frames p (data_bytes p n) ≡ (n + block_frames p.codec - 1) / block_frames p.codec * block_frames p.codec
whole_of p n good fits = ap (λ k. k * block_frames p.codec) (blocks_of ((n + block_frames p.codec - 1) / block_frames p.codec) (block_align p.channels p.codec) (blocks_have_bytes p good fits))

not_counted : (p : Parameters) (bytes : ℕ) (count : Option ℕ) → is_adpcm p.codec ≡ false → frame_count p bytes count ≡ whole_frames p bytes
not_counted p bytes None other = refl
not_counted p bytes (Some count) other = rw other refl

pub single : (n b : ℕ) → b ≡ 1 → (n + b - 1) / b * b ≡ n
single n b one = rw one (omega arith)

pub counted : (p : Parameters) (n : ℕ) (count : Option ℕ) → AreParams p → fit_refusal Wave p ≡ None → (is_adpcm p.codec ≡ true → count ≡ Some n) → frame_count p (data_bytes p n) count ≡ n
counted p n count good fits reads = elim (cases_Bool (is_adpcm p.codec)) [
  | inl is ↦
      let whole : n ≤ whole_frames p (data_bytes p n) = rw (whole_of p n good fits) (blocks_hold n (block_frames p.codec) (blocks_have_frames p good fits)) in
      rw (reads is, is) (omega arith)
  | inr other ↦ not_counted p (data_bytes p n) count other ∙ whole_of p n good fits ∙ single n (block_frames p.codec) (fixed_frames p.codec other)
]

-- no frames have no bytes
pub no_bytes_yet : (p : Parameters) → AreParams p → fit_refusal Wave p ≡ None → data_bytes p 0 ≡ 0
no_bytes_yet p good fits =
    let none : (0 + block_frames p.codec - 1) / block_frames p.codec < 1 = div_below (0 + block_frames p.codec - 1) (block_frames p.codec) 1 (omega (arith, blocks_have_frames p good fits)) (omega (arith, blocks_have_frames p good fits)) in
    let zero : (0 + block_frames p.codec - 1) / block_frames p.codec ≡ 0 = omega arith in
    rw zero (omega arith)

-- the chunks behind others stand behind them
pub has_behind : (b : List ℕ) (place : ℕ) (xs ys : List NewChunk) → HasAt b place (chunks_bytes Little (xs ++ ys)) → HasAt b (place + length (chunks_bytes Little xs)) (chunks_bytes Little ys)
unfolding chunks_bytes
has_behind b place [] ys has = let same : place ≡ place + 0 = omega arith in rw (← same) has
has_behind b place (x ∷ xs) ys has =
    let later : place + length (chunk_bytes Little x) + length (chunks_bytes Little xs) ≡ place + length (chunks_bytes Little (x ∷ xs)) = omega (arith, length-chunks_bytes Little x xs) in
    rw (← later) (has_behind b (place + length (chunk_bytes Little x)) xs ys (has_others Little b place (place + length (chunk_bytes Little x)) x (xs ++ ys) refl has))

-- the count of the `fact` is that of the frames
count_read : (b : List ℕ) (place n : ℕ) (codec : Codec) → has_fact codec ≡ true → n < 2 ^ 32 → HasAt b place (chunks_bytes Little (new_fact codec n)) → number Little b (place + 8) 4 ≡ n
count_read b place n codec is few has =
    let here : HasAt b place (chunks_bytes Little ((record { id = codes "fact"; body = bytes_of Little 4 n }) ∷ [])) = rw is at has in
    has_number Little b (place + 8) n (has_body Little b place (record { id = codes "fact"; body = bytes_of Little 4 n }) refl (has_first Little b place (record { id = codes "fact"; body = bytes_of Little 4 n }) [] here)) few

pub adpcm_has_fact : (codec : Codec) → is_adpcm codec ≡ true → has_fact codec ≡ true
adpcm_has_fact U8 is = absurd (cc)
adpcm_has_fact S8 is = absurd (cc)
adpcm_has_fact (S16 order) is = absurd (cc)
adpcm_has_fact (S24 order) is = absurd (cc)
adpcm_has_fact (S32 order) is = absurd (cc)
adpcm_has_fact MuLaw is = absurd (cc)
adpcm_has_fact ALaw is = absurd (cc)
adpcm_has_fact (Ima align per_block) is = refl
adpcm_has_fact (Ms align per_block) is = refl

-- a shape by the parts that are not the same in all
unfoldable pub shape_with : Parameters → ℕ → ℕ → ℕ → Field → Option Field → Bool → Option ℕ → List Piece → Shape
shape_with p start frames declared inner side trailing reserve pieces = record {
  kind = Wave;
  params = p;
  start = start;
  frames = frames;
  declared = declared;
  inner = inner;
  outer = Some (record { at = 4; size = 4 });
  side = side;
  trailing = trailing;
  unknown_length = false;
  reserve = reserve;
  pieces = pieces;
}

pub same_shape : (p : Parameters) (a a' b b' c : ℕ) (d d' : Field) (e e' : Option Field) (f f' : Bool) (r r' : Option ℕ) (g g' : List Piece) → a ≡ a' → b ≡ b' → d ≡ d' → e ≡ e' → f ≡ f' → r ≡ r' → g ≡ g'
    → shape_with p a b c d e f r g ≡ shape_with p a' b' c d' e' f' r' g'
same_shape p a a' b b' c d d' e e' f f' r r' g g' ea eb ed ee ef er eg = cc

inner_made : (p : Parameters) (start place q len : ℕ) → start ≡ q + 8 → (has_fact p.codec ≡ true → start ≡ place + 20) → 44 ≤ start
    → inner_field 4 8 p (if has_fact p.codec then Some (placed (codes "fact") place 4) else None) (placed (codes "data") q len) ≡ record { at = start - inner_size p.codec; size = inner_size p.codec }
inner_made p start place q len at stands least = elim (cases_Bool (is_adpcm p.codec)) [
  | inl is ↦
      let has = adpcm_has_fact p.codec is in
      let here : start ≡ place + 20 = stands has in
      let joined : (padded_end (place + 8) 4 + 8 == q + 8) ≡ true = eq-eqb (padded_end (place + 8) 4 + 8) (q + 8) (omega (arith, here, at)) in
      let count : place + 8 ≡ start - 12 = omega (arith, here) in
      rw (has, is, joined, count) refl
  | inr other ↦
      let size : q + 8 - 4 ≡ start - 4 = omega (arith, at) in
      rw (other, size) refl
]

side_made : (p : Parameters) (start place : ℕ) → (has_fact p.codec ≡ true → start ≡ place + 20)
    → side_field 4 p (if has_fact p.codec then Some (placed (codes "fact") place 4) else None) ≡ (if has_fact p.codec && not (is_adpcm p.codec) then Some (record { at = start - 12; size = 4 }) else None)
side_made p start place stands = elim (cases_Bool (has_fact p.codec)) [
  | inl has ↦
      let count : place + 8 ≡ start - 12 = omega (arith, stands has) in
      elim (cases_Bool (is_adpcm p.codec)) [ inl is ↦ rw (has, is) refl | inr other ↦ rw (has, other, count) refl ]
  | inr none ↦ elim (cases_Bool (is_adpcm p.codec)) [ inl is ↦ rw (none, is) refl | inr other ↦ rw (none, other) refl ]
]

module _ (b : List ℕ) (r : Option ℕ) (p : Parameters) (pieces : List NewChunk) (n : ℕ) where
  behind : List NewChunk
  behind = pieces ++ (reserved_filler r p pieces ++ new_fact p.codec n)

  has_format_on : HasAt b 12 (chunks_bytes Little (reserved_chunks r p pieces n)) → HasAt b (lead_end r) (chunks_bytes Little (new_format p ∷ behind))
  unfolding reserved_chunks behind
  has_format_on all =
      subst (λ (k : ℕ). HasAt b k (chunks_bytes Little (new_format p ∷ (pieces ++ (reserved_filler r p pieces ++ new_fact p.codec n))))) (lead_bytes r)
      (has_behind b 12 (lead_of r) (new_format p ∷ (pieces ++ (reserved_filler r p pieces ++ new_fact p.codec n))) all)

  has_format : HasAt b 12 (chunks_bytes Little (reserved_chunks r p pieces n)) → HasAt b (lead_end r) (chunk_bytes Little (new_format p))
  has_format all = has_first Little b (lead_end r) (new_format p) behind (has_format_on all)

  first_fits : lead_end r + length (chunk_bytes Little (new_format p)) ≤ 12 + length (chunks_bytes Little (reserved_chunks r p pieces n))
  unfolding reserved_chunks
  first_fits =
      omega (
        arith,
        lead_bytes r,
        bytes-append (lead_of r) (new_format p ∷ (pieces ++ (reserved_filler r p pieces ++ new_fact p.codec n))),
        length-chunks_bytes Little (new_format p) (pieces ++ (reserved_filler r p pieces ++ new_fact p.codec n)),
      )

  has_count : HasAt b 12 (chunks_bytes Little (reserved_chunks r p pieces n)) → HasAt b (fact_head r p pieces n) (chunks_bytes Little (new_fact p.codec n))
  unfolding fact_head behind
  has_count all =
      let first = length-chunk_bytes Little (new_format p) (lead_end r) refl in
      let others = has_others Little b (lead_end r) (reserved_first r p) (new_format p) (pieces ++ (reserved_filler r p pieces ++ new_fact p.codec n)) (sym first) (has_format_on all) in
      has_behind b (reserved_first r p + length (chunks_bytes Little pieces)) (reserved_filler r p pieces) (new_fact p.codec n)
      (has_behind b (reserved_first r p) pieces (reserved_filler r p pieces ++ new_fact p.codec n) others)

-- a file that begins with a head, and ends with the pad of the data
module _ (b : List ℕ) (r : Option ℕ) (p : Parameters) (pieces : List NewChunk) (n : ℕ) (may : MayBeReserved r p pieces n) (has : HasAt b 0 (reserved_head r p pieces n)) (long : length b ≡ padded_end (reserved_size r p pieces) (data_bytes p n))
    (q : ℕ) (at : reserved_size r p pieces ≡ q + 8) where
  within : reserved_size r p pieces ≤ length b
  within = omega (arith, long)

  abbrev sound : Chunk
  sound = placed (codes "data") q (data_bytes p n)

  front_is : wave_front b ≡ record { chunks = all_placed 12 (reserved_chunks r p pieces n); ending = AtSound sound }
  front_is = front_made r p pieces n b q at may has within

  chunks_are : (wave_front b).chunks ≡ all_placed 12 (reserved_chunks r p pieces n)
  chunks_are = ap (λ (f : Front). f.chunks) front_is

  fact_is : fact_chunk 4 (wave_front b).chunks ≡ (if has_fact p.codec then Some (placed (codes "fact") (fact_head r p pieces n) 4) else None)
  fact_is = ap (fact_chunk 4) chunks_are ∙ fact_found r p pieces n may.pieces_are

  format_read : format_of (body_of b (placed (codes "fmt ") (lead_end r) (length (written_format p)))) ≡ Ok p
  format_read =
      let chunk : HasAt b (lead_end r) (chunk_bytes Little (new_format p)) = has_format b r p pieces n (has_chunks r p pieces n b has) in
      let body : HasAt b (lead_end r + 8) (written_format p) = has_body Little b (lead_end r) (new_format p) refl chunk in
      ap format_of (has_part (length (written_format p)) b (lead_end r + 8) (written_format p) refl (omega (arith, within, size_is r p pieces n, first_fits b r p pieces n, length-chunk_bytes Little (new_format p) (lead_end r) refl)) body)
      ∙ written_format_reads_back p may.params may.fits

  count_is : is_adpcm p.codec ≡ true → option_map (fact_count 4 b) (fact_chunk 4 (wave_front b).chunks) ≡ Some n
  count_is is =
      let is_there : has_fact p.codec ≡ true = adpcm_has_fact p.codec is in
      let there : fact_chunk 4 (wave_front b).chunks ≡ Some (placed (codes "fact") (fact_head r p pieces n) 4) = fact_is ∙ rw is_there refl in
      let read : number Little b (fact_head r p pieces n + 8) 4 ≡ n = count_read b (fact_head r p pieces n) n p.codec is_there (may.counted is) (has_count b r p pieces n (has_chunks r p pieces n b has)) in
      ap (option_map (fact_count 4 b)) there ∙ ap (λ k. Some k) read

  held_is : held (length b) sound ≡ data_bytes p n
  held_is = omega (arith, long, at, may.in_room, size_least r p pieces)

  frames_are : frame_count p (held (length b) sound) (option_map (fact_count 4 b) (fact_chunk 4 (wave_front b).chunks)) ≡ n
  frames_are = ap (λ k. frame_count p k (option_map (fact_count 4 b) (fact_chunk 4 (wave_front b).chunks))) held_is ∙ counted p n _ may.params may.fits count_is

  ends : outer_end b ≤ data_end b sound
  ends = rw held_is (omega (arith, long, at))

  no_tail_is : wave_tail b (wave_front b) sound ≡ []
  no_tail_is = no_tail Little b (outer_end b) _ (data_end b sound) ends

  pieces_are : pieces_of false (wave_front b).chunks ++ pieces_of true (wave_tail b (wave_front b) sound) ≡ reserved_pieces r p pieces
  pieces_are =
      ap (λ (l : List Chunk). pieces_of false (wave_front b).chunks ++ pieces_of true l) no_tail_is ∙ append-nil (pieces_of false (wave_front b).chunks)
      ∙ ap (pieces_of false) chunks_are ∙ pieces_found r p pieces n may.pieces_are

  inner_is : inner_field 4 8 p (fact_chunk 4 (wave_front b).chunks) sound ≡ record { at = reserved_size r p pieces - inner_size p.codec; size = inner_size p.codec }
  inner_is = ap (λ (fact : Option Chunk). inner_field 4 8 p fact sound) fact_is ∙ inner_made p (reserved_size r p pieces) (fact_head r p pieces n) q (data_bytes p n) at (fact_stands r p pieces n) (size_least r p pieces)

  side_is : side_field 4 p (fact_chunk 4 (wave_front b).chunks) ≡ (if has_fact p.codec && not (is_adpcm p.codec) then Some (record { at = reserved_size r p pieces - 12; size = 4 }) else None)
  side_is = ap (side_field 4 p) fact_is ∙ side_made p (reserved_size r p pieces) (fact_head r p pieces n) (fact_stands r p pieces n)

  shape_is : wave_shape b (wave_front b) p sound ≡ reserved_shape r p pieces n
  unfolding shape_with reserved_shape
  shape_is =
      same_shape p (q + 8) (reserved_size r p pieces) _ n (data_bytes p n) _ _ _ _ _ false _ r _ _ (sym at) frames_are inner_is side_is (le-ltb (data_end b sound) (outer_end b) ends)
      (ap (reserve_of p) chunks_are ∙ reserve_found r p pieces n may.reserved) pieces_are

  opens_made : Opens b (wave_front b) (reserved_shape r p pieces n)
  opens_made = record {
    format = placed (codes "fmt ") (lead_end r) (length (written_format p));
    sound = sound;
    params = p;
    no_refusal = refused true sound (wave_front b) (ap (λ (f : Front). f.ending) front_is) (ap (λ (l : List Chunk). is_format (format_chunk l)) chunks_are ∙ ap is_format (format_found r p pieces n) ∙ le-leb 16 (length (written_format p)) (omega (arith, format_size p)));
    format_is = ap format_chunk chunks_are ∙ format_found r p pieces n;
    sound_is = ap (λ (f : Front). f.ending) front_is;
    params_are = format_read;
    shape = sym shape_is;
  }

-- what begins with a head and ends with the pad of the data has the layout that the head says
pub made_layout : (b : List ℕ) (r : Option ℕ) (p : Parameters) (pieces : List NewChunk) (n : ℕ) → MayBeReserved r p pieces n → HasAt b 0 (reserved_head r p pieces n) → length b ≡ padded_end (reserved_size r p pieces) (data_bytes p n) → wave_layout b ≡ Ok (reserved_shape r p pieces n)
made_layout b r p pieces n may has long =
    let at : reserved_size r p pieces ≡ (reserved_size r p pieces - 8) + 8 = omega (arith, size_least r p pieces) in
    opened b (reserved_shape r p pieces n) (opens_made b r p pieces n may has long (reserved_size r p pieces - 8) at)

pub has_self : (x y : List ℕ) → HasAt (x ++ y) 0 x
has_self x y = λ j lt. let same : 0 + j ≡ j = omega arith in ap (λ k. get_or (x ++ y) k 0) same ∙ get_or_append_left x y 0 j lt

pub reserved_reads_back : ReservedReadsBack
unfolding reserved_made
reserved_reads_back r p pieces n bytes may len =
    made_layout (reserved_head r p pieces n ++ bytes ++ pad (data_bytes p n)) r p pieces n may
    (has_left (reserved_head r p pieces n ++ bytes ++ pad (data_bytes p n)) 0 (reserved_head r p pieces n) bytes
    (has_self (reserved_head r p pieces n ++ bytes) (pad (data_bytes p n))))
    (omega (arith, length-append (reserved_head r p pieces n ++ bytes) (pad (data_bytes p n)), length-append (reserved_head r p pieces n) bytes, length-reserved_head r p pieces n, len, length-replicate {A = ℕ} (data_bytes p n % 2) 0))

pub made_reads_back : MadeReadsBack
made_reads_back p pieces n bytes may len = reserved_reads_back None p pieces n bytes may len

pub reserved_has_size : ReservedHeadHasItsSize
reserved_has_size r p pieces n = length-reserved_head r p pieces n

pub length_head_for : HeadHasItsSize
length_head_for p pieces n = length-head_for p pieces n

pub reserved_head_reads_back : ReservedHeadReadsBack
reserved_head_reads_back r p pieces may =
    let none : data_bytes p 0 ≡ 0 = no_bytes_yet p may.params may.fits in
    let even : data_bytes p 0 % 2 ≡ 0 = ap (λ k. k % 2) none in
    let self : HasAt (reserved_head r p pieces 0) 0 (reserved_head r p pieces 0) = λ j lt. ap (λ k. get_or (reserved_head r p pieces 0) k 0) (omega arith) in
    made_layout (reserved_head r p pieces 0) r p pieces 0 may self (omega (arith, length-reserved_head r p pieces 0, none, even))

pub head_reads_back : HeadReadsBack
head_reads_back p pieces may = reserved_head_reads_back None p pieces may
