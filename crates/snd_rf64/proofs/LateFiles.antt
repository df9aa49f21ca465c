-- A file that is closed with late chunks reads back.
use Rattle.std.proofs.Common.{◌≡◌, ℕ, ◌+◌, ◌-◌, ◌<◌, ◌≤◌, ◌^◌, List, ◌++◌, All, Bool, true, false, Ok, length, refl, sym, ap, ◌∙◌, arith}
use Rattle.std.proofs.lemmas.List.Elements.{All-weaker}
use Rattle.std.specs.Prelude.{map, min, nat_lt}
use Rattle.snd_disk.specs.Runs.{HasAt}
use Rattle.snd_chunks.proofs.Public.{HasHead, late_is, length-late, tail_written}
use Rattle.snd_chunks.specs.Chunks.{chunk_at, padded_end, tail}
use Rattle.snd_chunks.specs.Late.{EndsLate, LateReadsBack, MayBeLate, late_bytes, late_shape, piece_behind}
use Rattle.snd_chunks.specs.Written.{NewChunk, all_placed, chunks_bytes}
use Rattle.snd_chunks.specs.declared.chunk.Chunk.{Chunk}
use Rattle.snd_chunks.specs.declared.front.Front.{Front}
use Rattle.snd_fields.specs.Field.{bytes_of, number}
use Rattle.snd_fields.specs.declared.field.Order.TheVariants.{Little}
use Rattle.snd_layout.specs.Container.{closed_end, counted_shape}
use Rattle.snd_layout.specs.Params.{AreParams, Parameters, data_bytes}
use Rattle.snd_layout.specs.Shape.{Shape}
use Rattle.snd_layout.specs.declared.piece.Piece.{Piece}
use Rattle.snd_wave.proofs.Public.{bytes_few, format_few, small}
use Rattle.snd_chunks.specs.Parts.{whole_frames}
use Rattle.snd_wave.specs.Layout.{piece_of, pieces_of}
use Rattle.snd_wave.specs.Relaid.{IsSmall}
use Rattle.snd_wave.specs.Written.{MayBePiece}
use Rattle.snd_rf64.specs.Container.{rf64}
use Rattle.snd_rf64.specs.Layout.{data_end, held, outer_end, rf64_front, rf64_layout, rf64_shape, rf64_tail, shape_at, sizes_in}
use Rattle.snd_rf64.specs.Put.{rf64_heads}
use Rattle.snd_rf64.specs.Values.{inner_value}
use Rattle.snd_rf64.specs.Written.{MayBeMade, head_size, made_shape, rf64_head}
use Rattle.snd_rf64.proofs.Contained.{closed_by}
use Rattle.snd_rf64.proofs.Counted.{frames_of, free_ends, free_shape, has_long}
use Rattle.snd_rf64.proofs.Made.{first_fits, head_reads_back, kept_all, size_is, walk_few}
use Rattle.snd_rf64.proofs.Stays.{Stays, stays}

headed : (piece : NewChunk) → MayBePiece piece → HasHead piece
headed piece is = record { four = is.four; few = omega (arith, is.few) }

-- a head of at most 240 pieces is short
few_before : (p : Parameters) (pieces : List NewChunk) → MayBeMade p pieces → head_size p pieces < 2 ^ 61
few_before p pieces may =
    omega (arith, size_is p pieces, first_fits p pieces, bytes_few Little pieces (All-weaker MayBePiece IsSmall small pieces may.pieces_are), may.few, format_few p)

module _ (p : Parameters) (pieces : List NewChunk) (n : ℕ) (l : List NewChunk) (x : List ℕ) (may : MayBeLate MayBePiece rf64_heads p pieces n l) (is : EndsLate rf64 (rf64_head p pieces) (made_shape p pieces) n l x) where
  abbrev h : Shape
  h = made_shape p pieces

  abbrev file : List ℕ
  file = rf64_head p pieces

  abbrev ends : ℕ
  ends = closed_end rf64 h n

  short : head_size p pieces < 2 ^ 61
  short = few_before p pieces may.made

  starts : h.start ≡ head_size p pieces
  unfolding made_shape
  starts = refl

  params_are : h.params ≡ p
  unfolding made_shape
  params_are = refl

  free : h.trailing ≡ false
  unfolding made_shape
  free = refl

  ends_are : ends ≡ padded_end (head_size p pieces) (data_bytes p n)
  unfolding made_shape
  ends_are = closed_by h n

  in_room : data_bytes p n + late_bytes l ≤ 2 ^ 62 - head_size p pieces
  unfolding made_shape
  in_room = may.in_room

  sound_there : HasAt x 28 (bytes_of Little 8 (data_bytes p n))
  unfolding made_shape inner_value
  sound_there = is.inner

  whole_there : HasAt x 20 (bytes_of Little 8 (ends + late_bytes l - 8))
  unfolding made_shape
  whole_there = is.outer

  late_there : HasAt x ends (chunks_bytes Little l)
  unfolding made_shape
  late_there = is.behind

  heads : All HasHead l
  heads = All-weaker MayBePiece HasHead headed l may.are

  there : Stays x file h
  there = stays x file h (head_reads_back p pieces may.made (omega (arith, short))) (omega (arith, is.long, ends_are, starts)) is.head

  abbrev front : Front
  front = rf64_front file there.sizes.next

  abbrev at : ℕ
  at = there.sound.at

  at_is : at ≡ head_size p pieces
  at_is = sym (ap (λ (s : Shape). s.start) there.old) ∙ starts

  same_params : there.params ≡ p
  same_params = sym (ap (λ (s : Shape). s.params) there.old) ∙ params_are

  few_chunks : length front.chunks ≡ length pieces + 1
  few_chunks = ap (λ k. length (rf64_front file k).chunks) (ap (λ s. s.next) there.told) ∙ walk_few p pieces may.made (omega (arith, short))

  sound_is : (sizes_in x).sound ≡ data_bytes p n
  sound_is = ap (λ k. min k (2 ^ 63 - 1)) (has_long x 28 (data_bytes p n) sound_there (omega (arith, in_room, short))) ∙ omega (arith, in_room, short)

  whole_is : (sizes_in x).whole ≡ ends + late_bytes l - 8
  whole_is = has_long x 20 (ends + late_bytes l - 8) whole_there (omega (arith, in_room, short, ends_are))

  data_there : held (length x) at (sizes_in x).sound ≡ data_bytes p n
  data_there = omega (arith, sound_is, at_is, is.long, ends_are, in_room, short)

  data_ends : data_end (length x) at (sizes_in x).sound ≡ ends
  data_ends =
      let all : min (sizes_in x).sound (length x - at) ≡ data_bytes p n = omega (arith, sound_is, at_is, is.long, ends_are) in
      ap (padded_end at) all ∙ ap (λ k. padded_end k (data_bytes p n)) at_is ∙ sym ends_are

  whole_ends : outer_end (length x) (sizes_in x).whole ≡ ends + late_bytes l
  whole_ends = omega (arith, whole_is, is.long, in_room, short, ends_are, first_fits p pieces, size_is p pieces)

  tail_is : rf64_tail x (sizes_in x) front at ≡ all_placed ends l
  tail_is =
      ap (λ k. rf64_tail_to k (data_end (length x) at (sizes_in x).sound)) whole_ends ∙ ap (rf64_tail_to (ends + late_bytes l)) data_ends
      ∙ tail_written Little x (255 - length front.chunks) ends (ends + late_bytes l) l heads (omega (arith, length-late Little l heads)) is.long (omega (arith, few_chunks, may.few)) late_there
    where
      rf64_tail_to : ℕ → ℕ → List Chunk
      rf64_tail_to to from = tail (chunk_at Little x) to (255 - length front.chunks) from

  behind_are : pieces_of true (rf64_tail x (sizes_in x) front at) ≡ map piece_behind (all_placed ends l)
  behind_are = ap (pieces_of true) tail_is ∙ ap (map (piece_of true)) (kept_all ends l may.are)

  plain : h ≡ shape_at there.params at (whole_frames there.params (held (length file) at there.sizes.sound)) there.sizes.sound false (pieces_of false front.chunks)
  plain = there.old ∙ free_shape file there.sizes front there.params at (free_ends x file h there free)

  abbrev goes_on : Bool
  goes_on = nat_lt (data_end (length x) at (sizes_in x).sound) (outer_end (length x) (sizes_in x).whole)

  abbrev behind : List Piece
  behind = pieces_of true (rf64_tail x (sizes_in x) front at)

  goes : goes_on ≡ nat_lt ends (ends + late_bytes l)
  goes = ap (λ k. nat_lt k (outer_end (length x) (sizes_in x).whole)) data_ends ∙ ap (nat_lt ends) whole_ends

  bytes_are : data_bytes p n ≡ data_bytes there.params n
  bytes_are = ap (λ (q : Parameters). data_bytes q n) (sym same_params)

  frames_are : whole_frames there.params (held (length x) at (sizes_in x).sound) ≡ n
  frames_are =
      let good : AreParams there.params = rw same_params may.made.params in
      ap (whole_frames there.params) (data_there ∙ bytes_are) ∙ frames_of there.params n good there.fits

  shape_is : rf64_shape x (sizes_in x) front there.params at ≡ record (counted_shape h n) { pieces = h.pieces ++ behind; trailing = goes_on }
  shape_is =
      ap (λ m. shape_at there.params at m (sizes_in x).sound goes_on (pieces_of false front.chunks ++ behind)) frames_are
      ∙ ap (λ m. shape_at there.params at n m goes_on (pieces_of false front.chunks ++ behind)) (sound_is ∙ bytes_are)
      ∙ sym (ap (λ (s : Shape). record (counted_shape s n) { pieces = s.pieces ++ behind; trailing = goes_on }) plain)

  late_layout : rf64_layout x ≡ Ok (late_shape rf64 (counted_shape h n) l)
  late_layout = there.new ∙ ap (λ (s : Shape). Ok s) (shape_is ∙ late_is rf64 (counted_shape h n) l ends goes_on behind free (closed_by h n ∙ sym (closed_by (counted_shape h n) n)) goes behind_are)

pub late_reads_back : LateReadsBack MayBePiece rf64 rf64_heads
late_reads_back p pieces n l x may is = late_layout p pieces n l x may is
