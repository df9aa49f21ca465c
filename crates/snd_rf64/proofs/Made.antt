-- What is made reads back.
use Rattle.std.proofs.Common.{◌≡◌, ℕ, ◌+◌, ◌-◌, ◌/◌, ◌<◌, ◌≤◌, ◌^◌, List, [], ◌∷◌, ◌++◌, All, true, false, not, Some, Ok, length, take, drop, get_or, refl, sym, ap, ◌∙◌, arith, length-append}
use Rattle.std.proofs.lemmas.Bool.{le-leb, le-ltb}
use Rattle.std.proofs.lemmas.List.Elements.{All-cons, All-head, All-tail, All-weaker}
use Rattle.std.proofs.lemmas.Nat.{div_below}
use Rattle.std.specs.List.{filter}
use Rattle.std.specs.Prelude.{codes, map, nat_le, nat_lt}
use Rattle.snd_disk.specs.Runs.{HasAt}
use Rattle.snd_chunks.proofs.Public.{chain_written, has_body, has_first, has_left, has_number, has_part, has_right, head_written, length-all_placed, length-chunk_bytes, length-chunks_bytes, length-head_bytes, MayPrecede, refused, walks}
use Rattle.snd_chunks.specs.declared.chunk.Chunk.{Chunk}
use Rattle.snd_chunks.specs.declared.front.Ending.TheVariants.{AtSound}
use Rattle.snd_chunks.specs.declared.front.Front.{Front}
use Rattle.snd_chunks.specs.Chunks.{chunk_at, padded_end}
use Rattle.snd_chunks.specs.Written.{NewChunk, all_placed, chunks_bytes, head_bytes, placed}
use Rattle.snd_fields.specs.Field.{bytes_of, number}
use Rattle.snd_fields.specs.declared.field.Order.TheVariants.{Little}
use Rattle.snd_layout.proofs.RoundTrips.{written_format_reads_back}
use Rattle.snd_layout.specs.Blocks.{block_align}
use Rattle.snd_layout.specs.Format.{format_of}
use Rattle.snd_layout.specs.Params.{Parameters}
use Rattle.snd_layout.specs.Written.{written_format}
use Rattle.snd_layout.specs.declared.piece.Piece.{Piece}
use Rattle.snd_wave.proofs.Public.{blocks_have_bytes, format_few, format_size, not_data}
use Rattle.snd_chunks.specs.Parts.{body_of, format_chunk, is_format, whole_frames}
use Rattle.snd_wave.specs.Layout.{is_own, piece_of, pieces_of}
use Rattle.snd_wave.specs.Written.{MayBePiece, new_format}
use Rattle.snd_rf64.specs.Layout.{data_end, fitted, held, outer_end, rf64_front, rf64_layout, rf64_shape, shape_at, sizes_in, sizes_of}
use Rattle.snd_rf64.specs.Written.{MayBeMade, chunks_before, head_size, made_pieces, made_shape, no_size, rf64_head, top}
use Rattle.snd_rf64.specs.declared.sizes.Sizes.{Sizes}
use Rattle.snd_rf64.proofs.Counted.{fits_wave, free_shape, has_long}
use Rattle.snd_rf64.proofs.Opens.{Opens, opened, tells}

-- ---- the first bytes

pub length-top : (s : ℕ) → length (top s) ≡ 48
unfolding top
length-top s = refl

-- what stands in them, in a file that begins with them
record HasTop (b : List ℕ) (s : ℕ) : Type 0 where
  id : HasAt b 12 (codes "ds64")
  len : HasAt b 16 (bytes_of Little 4 28)
  whole : HasAt b 20 (bytes_of Little 8 s)
  sound : HasAt b 28 (bytes_of Little 8 0)

has_top : (b : List ℕ) (s : ℕ) → HasAt b 0 (top s) → HasTop b s
unfolding top
has_top b s has =
    let first = codes "RF64" ++ bytes_of Little 4 no_size ++ codes "WAVE" in
    let to_id = first ++ codes "ds64" in
    let to_len = to_id ++ bytes_of Little 4 28 in
    let to_whole = to_len ++ bytes_of Little 8 s in
    let to_sound = to_whole ++ bytes_of Little 8 0 in
    let to_count = to_sound ++ bytes_of Little 8 0 in
    let count : HasAt b 0 to_count = has_left b 0 to_count (bytes_of Little 4 0) has in
    let sound : HasAt b 0 to_sound = has_left b 0 to_sound (bytes_of Little 8 0) count in
    let whole : HasAt b 0 to_whole = has_left b 0 to_whole (bytes_of Little 8 0) sound in
    let len : HasAt b 0 to_len = has_left b 0 to_len (bytes_of Little 8 s) whole in
    let id : HasAt b 0 to_id = has_left b 0 to_id (bytes_of Little 4 28) len in
    record {
      id = has_right b 0 12 first (codes "ds64") refl id;
      len = has_right b 0 16 to_id (bytes_of Little 4 28) refl len;
      whole = has_right b 0 20 to_len (bytes_of Little 8 s) refl whole;
      sound = has_right b 0 28 to_whole (bytes_of Little 8 0) refl sound;
    }

abbrev pub made_sizes : ℕ → Sizes
made_sizes s = record { next = 48; whole = s; sound = 0 }

sizes_made : (b : List ℕ) (s : ℕ) → HasTop b s → 48 ≤ length b → s < 2 ^ 64 → sizes_of b ≡ Ok (made_sizes s)
sizes_made b s has long few =
    let later : nat_lt (length b) 48 ≡ false = le-ltb (length b) 48 long in
    let id : take 4 (drop 12 b) ≡ codes "ds64" = has_part 4 b 12 (codes "ds64") refl (omega (arith, long)) has.id in
    let len : number Little b 16 4 ≡ 28 = has_number Little b 16 28 has.len (omega arith) in
    let whole : number Little b 20 8 ≡ s = has_long b 20 s has.whole few in
    let sound : number Little b 28 8 ≡ 0 = has_long b 28 0 has.sound (omega arith) in
    let within : nat_le 48 (length b) ≡ true = le-leb 48 (length b) long in
    rw (later, id, len, whole, sound, within) refl

-- ---- the chunks

module _ (p : Parameters) (pieces : List NewChunk) where
  pub size_is : head_size p pieces ≡ 56 + length (chunks_bytes Little (chunks_before p pieces))
  unfolding head_size
  size_is = refl

  pub first_fits : length (chunks_bytes Little (chunks_before p pieces)) + 48 ≡ padded_end 56 (length (written_format p)) + length (chunks_bytes Little pieces)
  first_fits = omega (arith, length-chunks_bytes Little (new_format p) pieces, length-chunk_bytes Little (new_format p) 48 refl)

  pub size_least : 80 ≤ head_size p pieces
  size_least = omega (arith, size_is, first_fits, format_size p)

  pub length-head : length (rf64_head p pieces) ≡ head_size p pieces
  unfolding rf64_head
  length-head =
      omega (
        arith,
        length-append (top (head_size p pieces - 8) ++ chunks_bytes Little (chunks_before p pieces)) (head_bytes Little (codes "data") no_size),
        length-append (top (head_size p pieces - 8)) (chunks_bytes Little (chunks_before p pieces)),
        length-top (head_size p pieces - 8),
        size_is,
        length-head_bytes Little (codes "data") no_size refl,
      )

piece_precedes : (piece : NewChunk) → MayBePiece piece → MayPrecede (codes "data") piece
piece_precedes piece is = record { four = is.four; few = omega (arith, is.few); other = not_data piece.id is.other }

format_precedes : (p : Parameters) → MayPrecede (codes "data") (new_format p)
format_precedes p = record { four = refl; few = omega (arith, format_few p); other = refl }

pub all_precede : (p : Parameters) (pieces : List NewChunk) → All MayBePiece pieces → All (MayPrecede (codes "data")) (chunks_before p pieces)
all_precede p pieces are = All-cons (MayPrecede (codes "data")) (new_format p) pieces (format_precedes p) (All-weaker MayBePiece (MayPrecede (codes "data")) piece_precedes pieces are)

-- each piece is kept
pub kept_all : (place : ℕ) (pieces : List NewChunk) → All MayBePiece pieces → filter (λ chunk. not (is_own chunk)) (all_placed place pieces) ≡ all_placed place pieces
unfolding all_placed
kept_all place [] are = refl
kept_all place (piece ∷ pieces) are =
    let is : MayBePiece piece = All-head MayBePiece piece pieces are in
    let other : is_own (placed piece.id place (length piece.body)) ≡ false = is.other in
    rw other (ap (λ (l : List Chunk). placed piece.id place (length piece.body) ∷ l) (kept_all (padded_end (place + 8) (length piece.body)) pieces (All-tail MayBePiece piece pieces are)))

pub pieces_found : (p : Parameters) (pieces : List NewChunk) → All MayBePiece pieces → pieces_of false (all_placed 48 (chunks_before p pieces)) ≡ made_pieces p pieces
unfolding all_placed made_pieces
pieces_found p pieces are = ap (map (piece_of false)) (kept_all (padded_end 56 (length (written_format p))) pieces are)

pub format_found : (p : Parameters) (pieces : List NewChunk) → format_chunk (all_placed 48 (chunks_before p pieces)) ≡ Some (placed (codes "fmt ") 48 (length (written_format p)))
unfolding all_placed
format_found p pieces = refl

-- ---- a file that is a head

module _ (b : List ℕ) (p : Parameters) (pieces : List NewChunk) (may : MayBeMade p pieces) (has : HasAt b 0 (rf64_head p pieces)) (long : length b ≡ head_size p pieces)
    (q : ℕ) (at : head_size p pieces ≡ q + 8) (few : head_size p pieces < 2 ^ 63) where
  abbrev sizes : Sizes
  sizes = made_sizes (head_size p pieces - 8)

  abbrev sound : Chunk
  sound = placed (codes "data") q no_size

  top_there : HasAt b 0 (top (head_size p pieces - 8))
  unfolding rf64_head
  top_there = has_left b 0 (top (head_size p pieces - 8)) (chunks_bytes Little (chunks_before p pieces))
      (has_left b 0 (top (head_size p pieces - 8) ++ chunks_bytes Little (chunks_before p pieces)) (head_bytes Little (codes "data") no_size) has)

  chunks_there : HasAt b 48 (chunks_bytes Little (chunks_before p pieces))
  unfolding rf64_head
  chunks_there = has_right b 0 48 (top (head_size p pieces - 8)) (chunks_bytes Little (chunks_before p pieces)) (omega (arith, length-top (head_size p pieces - 8)))
      (has_left b 0 (top (head_size p pieces - 8) ++ chunks_bytes Little (chunks_before p pieces)) (head_bytes Little (codes "data") no_size) has)

  data_there : HasAt b q (head_bytes Little (codes "data") no_size)
  unfolding rf64_head
  data_there = has_right b 0 q (top (head_size p pieces - 8) ++ chunks_bytes Little (chunks_before p pieces)) (head_bytes Little (codes "data") no_size)
      (omega (arith, at, size_is p pieces, length-append (top (head_size p pieces - 8)) (chunks_bytes Little (chunks_before p pieces)), length-top (head_size p pieces - 8))) has

  told : sizes_of b ≡ Ok sizes
  told = sizes_made b (head_size p pieces - 8) (has_top b (head_size p pieces - 8) top_there) (omega (arith, long, size_least p pieces)) (omega (arith, few))

  front_is : rf64_front b 48 ≡ record { chunks = all_placed 48 (chunks_before p pieces); ending = AtSound sound }
  unfolding rf64_front
  front_is =
      walks (chunk_at Little b) (codes "data") (length b) 256 48 (all_placed 48 (chunks_before p pieces)) q sound
      (chain_written Little b (codes "data") 48 q (chunks_before p pieces) (all_precede p pieces may.pieces_are) (omega (arith, at, size_is p pieces)) (omega (arith, at, long)) chunks_there)
      (head_written Little b (codes "data") q no_size refl (omega arith) (omega (arith, at, long)) data_there)
      refl
      (omega (arith, length-all_placed 48 (chunks_before p pieces), may.few))

  format_read : fitted (format_of (body_of b (placed (codes "fmt ") 48 (length (written_format p))))) ≡ Ok p
  format_read =
      let body : HasAt b 56 (written_format p) = has_body Little b 48 (new_format p) refl (has_first Little b 48 (new_format p) pieces chunks_there) in
      let read : format_of (body_of b (placed (codes "fmt ") 48 (length (written_format p)))) ≡ Ok p =
      ap format_of (has_part (length (written_format p)) b 56 (written_format p) refl (omega (arith, long, size_is p pieces, first_fits p pieces)) body) ∙ written_format_reads_back p may.params (fits_wave p may.fits) in
      rw (read, may.fits) refl

  ends : outer_end (length b) sizes.whole ≤ data_end (length b) (q + 8) sizes.sound
  ends = omega (arith, long, at)

  no_frames : whole_frames p (held (length b) (q + 8) 0) ≡ 0
  no_frames =
      let none : held (length b) (q + 8) 0 ≡ 0 = omega arith in
      let some : 1 ≤ block_align p.channels p.codec = blocks_have_bytes p may.params (fits_wave p may.fits) in
      let few_blocks : 0 / block_align p.channels p.codec < 1 = div_below 0 (block_align p.channels p.codec) 1 some (omega (arith, some)) in
      let zero : 0 / block_align p.channels p.codec ≡ 0 = omega (arith, few_blocks) in
      ap (whole_frames p) none ∙ rw zero (omega arith)

  shape_is : rf64_shape b sizes (rf64_front b 48) p (q + 8) ≡ made_shape p pieces
  unfolding made_shape
  shape_is =
      free_shape b sizes (rf64_front b 48) p (q + 8) ends
      ∙ ap (λ n. shape_at p (q + 8) n 0 false (pieces_of false (rf64_front b 48).chunks)) no_frames
      ∙ ap (λ (f : Front). shape_at p (q + 8) 0 0 false (pieces_of false f.chunks)) front_is
      ∙ ap (λ (l : List Piece). shape_at p (q + 8) 0 0 false l) (pieces_found p pieces may.pieces_are)
      ∙ ap (λ n. shape_at p n 0 0 false (made_pieces p pieces)) (sym at)

  opens_made : Opens b (made_shape p pieces)
  opens_made = record {
    sizes = sizes;
    format = placed (codes "fmt ") 48 (length (written_format p));
    sound = sound;
    params = p;
    told = told;
    no_refusal = refused true sound (rf64_front b 48) (ap (λ (f : Front). f.ending) front_is)
        (ap (λ (f : Front). is_format (format_chunk f.chunks)) front_is ∙ ap is_format (format_found p pieces) ∙ le-leb 16 (length (written_format p)) (omega (arith, format_size p)));
    format_is = ap (λ (f : Front). format_chunk f.chunks) front_is ∙ format_found p pieces;
    sound_is = ap (λ (f : Front). f.ending) front_is;
    params_are = format_read;
    shape = sym shape_is;
  }

has_self : (l : List ℕ) → HasAt l 0 l
has_self l = λ j lt. ap (λ k. get_or l k 0) (omega arith)

pub head_reads_back : (p : Parameters) (pieces : List NewChunk) → MayBeMade p pieces → head_size p pieces < 2 ^ 63 → rf64_layout (rf64_head p pieces) ≡ Ok (made_shape p pieces)
head_reads_back p pieces may few =
    let at : head_size p pieces ≡ (head_size p pieces - 8) + 8 = omega (arith, size_least p pieces) in
    opened (rf64_head p pieces) (made_shape p pieces) (opens_made (rf64_head p pieces) p pieces may (has_self (rf64_head p pieces)) (length-head p pieces) (head_size p pieces - 8) at few)

-- the walk over a head sees the format and the pieces, from behind `ds64` on
pub walk_few : (p : Parameters) (pieces : List NewChunk) → MayBeMade p pieces → head_size p pieces < 2 ^ 63 → length (rf64_front (rf64_head p pieces) (sizes_in (rf64_head p pieces)).next).chunks ≡ length pieces + 1
walk_few p pieces may few =
    let at : head_size p pieces ≡ (head_size p pieces - 8) + 8 = omega (arith, size_least p pieces) in
    let said : sizes_of (rf64_head p pieces) ≡ Ok (made_sizes (head_size p pieces - 8)) = told (rf64_head p pieces) p pieces may (has_self (rf64_head p pieces)) (length-head p pieces) (head_size p pieces - 8) at few in
    let next : (sizes_in (rf64_head p pieces)).next ≡ 48 = ap (λ (s : Sizes). s.next) (sym (tells (rf64_head p pieces) (made_sizes (head_size p pieces - 8)) said).is) in
    let seen = front_is (rf64_head p pieces) p pieces may (has_self (rf64_head p pieces)) (length-head p pieces) (head_size p pieces - 8) at few in
    ap (λ n. length (rf64_front (rf64_head p pieces) n).chunks) next ∙ ap (λ (f : Front). length f.chunks) seen ∙ omega (arith, length-all_placed 48 (chunks_before p pieces))
