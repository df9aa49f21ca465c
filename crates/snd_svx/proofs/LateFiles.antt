-- A file that is closed with late chunks reads back.
use Rattle.std.proofs.Common.{◌≡◌, ℕ, ◌+◌, ◌-◌, ◌<◌, ◌≤◌, ◌^◌, List, [], ◌∷◌, ◌++◌, All, Bool, true, false, Ok, length, refl, sym, ap, ◌∙◌, inl, inr, arith, length-append}
use Rattle.std.proofs.lemmas.Bool.{cases_Bool}
use Rattle.std.proofs.lemmas.List.Elements.{All-append, All-cons, All-nil, All-weaker}
use Rattle.std.specs.Prelude.{map, min, nat_lt}
use Rattle.snd_disk.specs.Runs.{HasAt}
use Rattle.snd_chunks.proofs.Public.{has_number, HasHead, late_is, length-late, tail_written}
use Rattle.snd_chunks.specs.Chunks.{chunk_at, padded_end, tail}
use Rattle.snd_chunks.specs.Late.{EndsLate, LateReadsBack, MayBeLate, late_bytes, late_shape, piece_behind}
use Rattle.snd_chunks.specs.Written.{NewChunk, all_placed, chunks_bytes}
use Rattle.snd_chunks.specs.declared.chunk.Chunk.{Chunk}
use Rattle.snd_chunks.specs.declared.front.Front.{Front}
use Rattle.snd_fields.specs.Field.{bytes_of, number}
use Rattle.snd_fields.specs.declared.field.Order.TheVariants.{Big}
use Rattle.snd_layout.specs.Container.{closed_end, counted_shape}
use Rattle.snd_layout.specs.Params.{Parameters, data_bytes}
use Rattle.snd_layout.specs.Sector.{is_in_one_sector}
use Rattle.snd_layout.specs.Shape.{Shape, end}
use Rattle.snd_layout.specs.declared.piece.Piece.{Piece}
use Rattle.snd_wave.proofs.Public.{bytes_few}
use Rattle.snd_chunks.specs.Parts.{held}
use Rattle.snd_wave.specs.Layout.{piece_of}
use Rattle.snd_wave.specs.Relaid.{IsSmall}
use Rattle.snd_svx.specs.Container.{svx}
use Rattle.snd_svx.specs.Layout.{data_end, declared_in, outer_end, pieces_of, shape_of, svx_front, svx_layout, svx_shape, svx_tail, voice}
use Rattle.snd_svx.specs.Put.{svx_heads}
use Rattle.snd_svx.specs.Values.{closing, inner_value}
use Rattle.snd_svx.specs.Written.{MayBeMade, MayBePiece, chunks_before, filler, head_size, junk, made_shape, new_header, start_without_filler, svx_head}
use Rattle.snd_svx.proofs.Agreements.{Agrees, agrees}
use Rattle.snd_svx.proofs.Images.{closing_is, no_pieces, same_shape, stops_there, voice_bytes}
use Rattle.snd_svx.proofs.Made.{filler_few, heads_read_back, kept_all, walk_few}
use Rattle.snd_svx.proofs.Putting.{small}

headed : (piece : NewChunk) → MayBePiece piece → HasHead piece
headed piece is = record { four = is.four; few = omega (arith, is.few) }

-- a head of at most 240 pieces is short
filler_small : (p : Parameters) (pieces : List NewChunk) → All IsSmall (filler p pieces)
filler_small p pieces = elim (cases_Bool (is_in_one_sector (start_without_filler p pieces - 4) 4)) [
  | inl is ↦ rw is (All-nil IsSmall)
  | inr other ↦ rw other (All-cons IsSmall junk [] (record { four = refl; few = omega arith }) (All-nil IsSmall))
]

few_before : (p : Parameters) (pieces : List NewChunk) → MayBeMade p pieces → head_size p pieces < 2 ^ 31
few_before p pieces may =
    let all : All IsSmall (chunks_before p pieces 0) =
    All-cons IsSmall (new_header p.rate 0) _ (record { four = refl; few = omega arith }) (All-append IsSmall pieces (filler p pieces) (All-weaker MayBePiece IsSmall small pieces may.pieces_are) (filler_small p pieces)) in
    omega (arith, bytes_few Big (chunks_before p pieces 0) all, length-append pieces (filler p pieces), filler_few p pieces, may.few)

-- the end of what closes the data
closed_by : (h : Shape) (n : ℕ) → closed_end svx h n ≡ padded_end h.start (data_bytes h.params n)
unfolding closing
closed_by h n = ap (λ (m : ℕ). end h n + m) (closing_is h.params n)

module _ (p : Parameters) (pieces : List NewChunk) (n : ℕ) (l : List NewChunk) (x : List ℕ) (may : MayBeLate MayBePiece svx_heads p pieces n l) (is : EndsLate svx (svx_head p pieces) (made_shape p pieces 0) n l x) where
  abbrev h : Shape
  h = made_shape p pieces 0

  abbrev file : List ℕ
  file = svx_head p pieces

  abbrev ends : ℕ
  ends = closed_end svx h n

  short : head_size p pieces < 2 ^ 31
  short = few_before p pieces may.made

  starts : h.start ≡ head_size p pieces
  unfolding made_shape
  starts = refl

  free : h.trailing ≡ false
  unfolding made_shape
  free = refl

  ends_are : ends ≡ padded_end (head_size p pieces) (data_bytes p n)
  unfolding made_shape
  ends_are = closed_by h n

  in_room : data_bytes p n + late_bytes l ≤ 2 ^ 32 + 6 - head_size p pieces
  unfolding made_shape
  in_room = may.in_room

  size_there : HasAt x (head_size p pieces - 4) (bytes_of Big 4 (data_bytes p n))
  unfolding made_shape inner_value
  size_there = is.inner

  whole_there : HasAt x 4 (bytes_of Big 4 (ends + late_bytes l - 8))
  unfolding made_shape
  whole_there = is.outer

  late_there : HasAt x ends (chunks_bytes Big l)
  unfolding made_shape
  late_there = is.behind

  heads : All HasHead l
  heads = All-weaker MayBePiece HasHead headed l may.are

  there : Agrees x file h
  there = agrees x file h (heads_read_back p pieces may.made) (omega (arith, is.long, ends_are, starts)) is.head

  abbrev front : Front
  front = svx_front file

  abbrev sound : Chunk
  sound = there.sound

  abbrev rate : ℕ
  rate = there.from.header.rate

  from_is : there.from.sound.at ≡ head_size p pieces
  from_is = sym (ap (λ (s : Shape). s.start) there.from.shape) ∙ starts

  at_is : sound.at ≡ head_size p pieces
  at_is = there.at ∙ from_is

  same_params : p ≡ voice rate
  unfolding made_shape
  same_params = ap (λ (s : Shape). s.params) there.from.shape

  bytes_are : data_bytes p n ≡ n
  bytes_are = ap (λ (q : Parameters). data_bytes q n) same_params ∙ voice_bytes rate n

  size_is : sound.len ≡ n
  size_is = there.size ∙ ap (λ k. number Big x (k - 4) 4) from_is ∙ has_number Big x (head_size p pieces - 4) (data_bytes p n) size_there (omega (arith, in_room)) ∙ bytes_are

  whole_is : number Big x 4 4 ≡ ends + late_bytes l - 8
  whole_is = has_number Big x 4 (ends + late_bytes l - 8) whole_there (omega (arith, in_room, short, ends_are))

  data_there : held (length x) sound ≡ n
  data_there = omega (arith, size_is, at_is, is.long, ends_are, in_room, short, bytes_are)

  data_ends : data_end x sound ≡ ends
  data_ends = ap (padded_end sound.at) (data_there ∙ sym bytes_are) ∙ ap (λ k. padded_end k (data_bytes p n)) at_is ∙ sym ends_are

  whole_ends : outer_end x ≡ ends + late_bytes l
  whole_ends = omega (arith, whole_is, is.long, ends_are)

  tail_to : ℕ → ℕ → List Chunk
  tail_to to from = tail (chunk_at Big x) to (256 - length front.chunks) from

  tail_is : svx_tail x front sound ≡ all_placed ends l
  unfolding tail_to
  tail_is =
      ap (λ k. tail_to k (data_end x sound)) whole_ends ∙ ap (tail_to (ends + late_bytes l)) data_ends
      ∙ tail_written Big x (256 - length front.chunks) ends (ends + late_bytes l) l heads (omega (arith, length-late Big l heads)) is.long (omega (arith, walk_few p pieces may.made, may.few)) late_there

  abbrev behind : List Piece
  behind = pieces_of true (svx_tail x front sound)

  behind_are : behind ≡ map piece_behind (all_placed ends l)
  behind_are = ap (pieces_of true) tail_is ∙ ap (map (piece_of true)) (kept_all ends l may.are)

  abbrev goes_on : Bool
  goes_on = nat_lt (data_end x sound) (outer_end x)

  goes : goes_on ≡ nat_lt ends (ends + late_bytes l)
  goes = ap (λ k. nat_lt k (outer_end x)) data_ends ∙ ap (nat_lt ends) whole_ends

  kept : h.pieces ≡ pieces_of false front.chunks
  kept = ap (λ (s : Shape). s.pieces) there.from.shape ∙ no_pieces file front there.from.sound (stops_there file h there.from free)

  plain : record (counted_shape h n) { pieces = h.pieces ++ behind; trailing = goes_on } ≡ shape_of (voice rate) there.from.sound.at n (data_bytes (voice rate) n) there.from.chunk.at goes_on (pieces_of false front.chunks ++ behind)
  plain =
      ap (λ (m : List Piece). record (counted_shape h n) { pieces = m ++ behind; trailing = goes_on }) kept
      ∙ ap (λ (s : Shape). record (counted_shape s n) { pieces = pieces_of false front.chunks ++ behind; trailing = goes_on }) there.from.shape

  shape_is : svx_shape x front there.from.header there.from.chunk sound ≡ record (counted_shape h n) { pieces = h.pieces ++ behind; trailing = goes_on }
  shape_is =
      let declared : declared_in sound ≡ data_bytes (voice rate) n = omega (arith, size_is, voice_bytes rate n, in_room, bytes_are) in
      same_shape (voice rate) sound.at there.from.sound.at (held (length x) sound) n (declared_in sound) (data_bytes (voice rate) n) there.from.chunk.at goes_on goes_on _ _ there.at data_there declared refl refl
      ∙ sym plain

  late_layout : svx_layout x ≡ Ok (late_shape svx (counted_shape h n) l)
  late_layout = there.new ∙ ap (λ (s : Shape). Ok s) (shape_is ∙ late_is svx (counted_shape h n) l ends goes_on behind free (closed_by h n ∙ sym (closed_by (counted_shape h n) n)) goes behind_are)

pub late_reads_back : LateReadsBack MayBePiece svx svx_heads
late_reads_back p pieces n l x may is = late_layout p pieces n l x may is
