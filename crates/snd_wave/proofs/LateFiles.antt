-- A file that is closed with late chunks reads back.
use Rattle.std.proofs.Common.{◌≡◌, ℕ, ◌+◌, ◌-◌, ◌<◌, ◌≤◌, ◌^◌, List, [], ◌∷◌, ◌++◌, All, Bool, true, false, not, Option, None, Some, Ok, length, get_or, refl, sym, ap, ◌∙◌, inl, inr, arith}
use Rattle.std.proofs.lemmas.Bool.{cases_Bool}
use Rattle.std.proofs.lemmas.List.{length-replicate}
use Rattle.std.proofs.lemmas.List.Elements.{All-append, All-cons, All-head, All-nil, All-tail, All-weaker}
use Rattle.std.specs.List.{filter}
use Rattle.std.specs.Prelude.{map, nat_lt}
use Rattle.snd_disk.specs.Runs.{HasAt}
use Rattle.snd_chunks.proofs.Public.{has_number, HasHead, late_is, length-all_placed, length-late, tail_written}
use Rattle.snd_chunks.specs.Chunks.{chunk_at, padded_end, tail}
use Rattle.snd_chunks.specs.Late.{EndsLate, LateReadsBack, MayBeLate, late_bytes, late_shape, piece_behind}
use Rattle.snd_chunks.specs.Written.{NewChunk, all_placed, chunks_bytes, placed}
use Rattle.snd_chunks.specs.declared.chunk.Chunk.{Chunk}
use Rattle.snd_chunks.specs.declared.front.Front.{Front}
use Rattle.snd_fields.specs.Field.{bytes_of, number}
use Rattle.snd_fields.specs.declared.field.Order.TheVariants.{Little}
use Rattle.snd_layout.specs.Blocks.{is_adpcm}
use Rattle.snd_layout.specs.Container.{closed_end, counted_shape}
use Rattle.snd_layout.specs.Params.{Parameters, data_bytes}
use Rattle.snd_layout.specs.Sector.{is_in_one_sector}
use Rattle.snd_layout.specs.Shape.{Shape}
use Rattle.snd_layout.specs.declared.codec.Codec.{Codec}
use Rattle.snd_layout.specs.declared.piece.Piece.{Piece}
use Rattle.snd_wave.specs.Container.{wave}
use Rattle.snd_wave.specs.Layout.{data_end, is_own, outer_end, piece_of, pieces_of, wave_front, wave_layout, wave_shape, wave_tail}
use Rattle.snd_wave.specs.Put.{reserved_heads}
use Rattle.snd_wave.specs.Relaid.{IsSmall}
use Rattle.snd_wave.specs.Written.{MayBePiece, MayBeReserved, MayReserve, has_fact, inner_size, junk, lead_of, new_fact, new_format, reserved_chunks, reserved_filler, reserved_head, reserved_shape, reserved_size, reserved_start}
use Rattle.snd_wave.proofs.Agreements.{before_is, front_same}
use Rattle.snd_wave.proofs.Contained.{closed_by}
use Rattle.snd_wave.proofs.Counted.{HasFields, MaySay, StandsIn, data_reach, pieces_all, same, shape_by, stands}
use Rattle.snd_wave.proofs.Counts.{reached, trailing_is_stated}
use Rattle.snd_wave.proofs.LayoutFacts.{FieldsStandApart, SameButNumbers, SameHead, padded_data_end}
use Rattle.snd_wave.proofs.Agreements.{layouts_agree}
use Rattle.snd_wave.proofs.Made.{front_made, reserved_head_reads_back}
use Rattle.snd_wave.proofs.NewHeads.{chunks_few, format_few, size_is, size_least}
use Rattle.snd_wave.proofs.Opens.{Opens, opens}
use Rattle.snd_wave.proofs.Putting.{small}
use Rattle.snd_wave.proofs.Relaying.{bytes_few}
use Rattle.snd_wave.proofs.Standing.{fields_are_apart}

headed : (piece : NewChunk) → MayBePiece piece → HasHead piece
headed piece is = record { four = is.four; few = omega (arith, is.few) }

-- each late chunk is kept
kept_all : (place : ℕ) (pieces : List NewChunk) → All MayBePiece pieces → filter (λ chunk. not (is_own chunk)) (all_placed place pieces) ≡ all_placed place pieces
unfolding all_placed
kept_all place [] are = refl
kept_all place (piece ∷ pieces) are =
    let is : MayBePiece piece = All-head MayBePiece piece pieces are in
    let other : is_own (placed piece.id place (length piece.body)) ≡ false = is.other in
    rw other (ap (λ (l : List Chunk). placed piece.id place (length piece.body) ∷ l) (kept_all (padded_end (place + 8) (length piece.body)) pieces (All-tail MayBePiece piece pieces are)))

-- ---- a head of at most 240 pieces is short

lead_small : (r : Option ℕ) (codec : Codec) → MayReserve r codec → All IsSmall (lead_of r)
lead_small None codec may = All-nil IsSmall
lead_small (Some len) codec may = All-cons IsSmall _ [] (record { four = refl; few = omega (arith, may.0, length-replicate {A = ℕ} len 0) }) (All-nil IsSmall)

fact_small : (codec : Codec) (n : ℕ) → All IsSmall (new_fact codec n)
fact_small codec n = elim (cases_Bool (has_fact codec)) [
  | inl is ↦ rw is (All-cons IsSmall _ [] (record { four = refl; few = omega arith }) (All-nil IsSmall))
  | inr other ↦ rw other (All-nil IsSmall)
]

filler_small : (r : Option ℕ) (p : Parameters) (pieces : List NewChunk) → All IsSmall (reserved_filler r p pieces)
filler_small r p pieces = elim (cases_Bool (is_in_one_sector (reserved_start r p pieces - inner_size p.codec) (inner_size p.codec))) [
  | inl is ↦ rw is (All-nil IsSmall)
  | inr other ↦ rw other (All-cons IsSmall junk [] (record { four = refl; few = omega arith }) (All-nil IsSmall))
]

all_small : (r : Option ℕ) (p : Parameters) (pieces : List NewChunk) → MayReserve r p.codec → All MayBePiece pieces → All IsSmall (reserved_chunks r p pieces 0)
unfolding reserved_chunks
all_small r p pieces may are =
    All-append IsSmall (lead_of r) _ (lead_small r p.codec may)
    (All-cons IsSmall (new_format p) _ (record { four = refl; few = omega (arith, format_few p) })
    (All-append IsSmall pieces _ (All-weaker MayBePiece IsSmall small pieces are)
    (All-append IsSmall (reserved_filler r p pieces) (new_fact p.codec 0) (filler_small r p pieces) (fact_small p.codec 0))))

few_before : (r : Option ℕ) (p : Parameters) (pieces : List NewChunk) → MayBeReserved r p pieces 0 → reserved_size r p pieces < 2 ^ 31
few_before r p pieces may =
    omega (arith, size_is r p pieces 0, bytes_few Little (reserved_chunks r p pieces 0) (all_small r p pieces may.reserved may.pieces_are), chunks_few r p pieces 0, may.few)

-- ---- a file with late chunks

module _ (r : Option ℕ) (p : Parameters) (pieces : List NewChunk) (n : ℕ) (l : List NewChunk) (x : List ℕ) (may : MayBeLate MayBePiece (reserved_heads r) p pieces n l)
    (is : EndsLate wave (reserved_head r p pieces 0) (reserved_shape r p pieces 0) n l x) where
  abbrev h : Shape
  h = reserved_shape r p pieces 0

  abbrev file : List ℕ
  file = reserved_head r p pieces 0

  abbrev ends : ℕ
  ends = closed_end wave h n

  short : reserved_size r p pieces < 2 ^ 31
  short = few_before r p pieces may.made

  starts : h.start ≡ reserved_size r p pieces
  unfolding reserved_shape
  starts = refl

  params_are : h.params ≡ p
  unfolding reserved_shape
  params_are = refl

  free : h.trailing ≡ false
  unfolding reserved_shape
  free = refl

  joined : is_adpcm h.params.codec ≡ true → h.inner.size ≡ 12
  unfolding reserved_shape
  joined adpcm = rw adpcm refl

  ends_are : ends ≡ padded_end (reserved_size r p pieces) (data_bytes p n)
  unfolding reserved_shape
  ends_are = closed_by h n

  bytes_are : data_bytes h.params n ≡ data_bytes p n
  bytes_are = ap (λ (q : Parameters). data_bytes q n) params_are

  in_room : data_bytes p n + late_bytes l ≤ 2 ^ 32 + 6 - reserved_size r p pieces
  unfolding reserved_shape
  in_room = may.in_room

  whole_there : HasAt x 4 (bytes_of Little 4 (ends + late_bytes l - 8))
  unfolding reserved_shape
  whole_there = is.outer

  late_there : HasAt x ends (chunks_bytes Little l)
  unfolding reserved_shape
  late_there = is.behind

  heads : All HasHead l
  heads = All-weaker MayBePiece HasHead headed l may.are

  -- what the head says, and which fields the file has

  laid : wave_layout file ≡ Ok h
  laid = reserved_head_reads_back r p pieces may.made

  says : MaySay file h n
  says = record {
    opened = laid;
    params = rw params_are may.made.params;
    free = free;
    few = omega (arith, bytes_are, in_room, size_least r p pieces);
    on_disk = omega (arith, bytes_are, in_room, starts, short);
    counted = λ adpcm. (may.counted (ap (λ (q : Parameters). is_adpcm q.codec) (sym params_are) ∙ adpcm), joined adpcm);
  }

  fields : HasFields file h n x
  fields = record { inner = is.inner; beside = is.head; long = omega (arith, is.long, ends_are, starts, bytes_are) }

  apart : FieldsStandApart h
  apart = fields_are_apart file h laid

  stand : StandsIn file h
  stand = stands file h laid

  numbers : SameButNumbers h x file
  numbers = same file x h n says fields apart stand

  within : h.start ≤ length x
  within = omega (arith, fields.long)

  agreed : (h' : Shape) × (wave_layout x ≡ Ok h') × SameHead h h'
  agreed = layouts_agree x file h laid within numbers

  abbrev h' : Shape
  h' = agreed.0

  from : Opens x (wave_front x) h'
  from = opens x h' agreed.1

  abbrev front : Front
  front = wave_front x

  -- how many chunks stand before the data

  few_made : length (wave_front file).chunks ≤ length pieces + 4
  few_made =
      let at : reserved_size r p pieces ≡ (reserved_size r p pieces - 8) + 8 = omega (arith, size_least r p pieces) in
      let self : HasAt file 0 file = λ j lt. ap (λ k. get_or file k 0) (omega arith) in
      let seen = front_made r p pieces 0 file (reserved_size r p pieces - 8) at may.made self (omega (arith, stand.within, starts)) in
      omega (arith, ap (λ (f : Front). length f.chunks) seen, length-all_placed 12 (reserved_chunks r p pieces 0), chunks_few r p pieces 0)

  few_chunks : length front.chunks ≤ length pieces + 4
  few_chunks =
      let old : Opens file (wave_front file) h = opens file h laid in
      let there : old.sound.at ≤ length x = rw old.shape at within in
      let numbers_too : SameButNumbers (wave_shape file (wave_front file) old.params old.sound) x file = rw old.shape at numbers in
      let seen = front_same x file old.params old.sound numbers_too there (reached file old.sound old.sound_is) in
      omega (arith, ap (λ (f : Front). length f.chunks) seen, few_made)

  -- where the data end, and where the whole does

  data_ends : padded_data_end h' (length x) ≡ ends
  data_ends = data_reach file x h n says fields apart stand h' agreed.1 agreed.2 ∙ ap (λ k. padded_end k (data_bytes h.params n)) starts ∙ ap (padded_end (reserved_size r p pieces)) bytes_are ∙ sym ends_are

  whole_is : number Little x 4 4 ≡ ends + late_bytes l - 8
  whole_is = has_number Little x 4 (ends + late_bytes l - 8) whole_there (omega (arith, in_room, short, ends_are))

  whole_ends : outer_end x ≡ ends + late_bytes l
  whole_ends = omega (arith, whole_is, is.long, ends_are, size_least r p pieces)

  tail_from : data_end x from.sound ≡ ends
  tail_from = sym (ap (λ (s : Shape). padded_data_end s (length x)) from.shape) ∙ data_ends

  tail_to : ℕ → ℕ → List Chunk
  tail_to to place = tail (chunk_at Little x) to (256 - length front.chunks) place

  tail_is : wave_tail x front from.sound ≡ all_placed ends l
  unfolding tail_to
  tail_is =
      ap (λ k. tail_to k (data_end x from.sound)) whole_ends ∙ ap (tail_to (ends + late_bytes l)) tail_from
      ∙ tail_written Little x (256 - length front.chunks) ends (ends + late_bytes l) l heads (omega (arith, length-late Little l heads)) is.long (omega (arith, few_chunks, may.few)) late_there

  abbrev behind : List Piece
  behind = pieces_of true (wave_tail x front from.sound)

  behind_are : behind ≡ map piece_behind (all_placed ends l)
  behind_are = ap (pieces_of true) tail_is ∙ ap (map (piece_of true)) (kept_all ends l may.are)

  abbrev goes_on : Bool
  goes_on = nat_lt (padded_data_end h' (length x)) (outer_end x)

  goes : goes_on ≡ nat_lt ends (ends + late_bytes l)
  goes = ap (λ k. nat_lt k (outer_end x)) data_ends ∙ ap (nat_lt ends) whole_ends

  -- the pieces before the data are those of the head

  parts : h'.pieces ≡ pieces_of false front.chunks ++ behind
  parts = ap (λ (s : Shape). s.pieces) from.shape

  kept : pieces_of false front.chunks ≡ h.pieces
  kept = sym (ap (filter (λ (piece : Piece). not piece.after)) parts ∙ before_is front.chunks (wave_tail x front from.sound)) ∙ agreed.2.pieces ∙ pieces_all file h laid free

  shape_is : h' ≡ record (counted_shape h n) { trailing = goes_on; pieces = h.pieces ++ behind }
  shape_is = shape_by file x h n says fields apart stand h' agreed.1 agreed.2 goes_on (h.pieces ++ behind) (trailing_is_stated x h' agreed.1) (parts ∙ ap (λ (m : List Piece). m ++ behind) kept)

  late_layout : wave_layout x ≡ Ok (late_shape wave (counted_shape h n) l)
  late_layout = agreed.1 ∙ ap (λ (s : Shape). Ok s) (shape_is ∙ late_is wave (counted_shape h n) l ends goes_on behind free (closed_by h n ∙ sym (closed_by (counted_shape h n) n)) goes behind_are)

pub late_reads_back : (r : Option ℕ) → LateReadsBack MayBePiece wave (reserved_heads r)
late_reads_back r p pieces n l x may is = late_layout r p pieces n l x may is
