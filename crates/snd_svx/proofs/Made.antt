-- A head that is made reads back, with its pieces.
use Rattle.std.proofs.Common.{◌≡◌, ℕ, ◌+◌, ◌-◌, ◌%◌, ◌<◌, ◌≤◌, ◌^◌, List, [], ◌∷◌, ◌++◌, All, Bool, true, false, not, Some, Ok, length, take, drop, get_or, refl, sym, ap, ◌∙◌, inl, inr, subst, arith, length-append}
use Rattle.std.proofs.lemmas.Bool.{cases_Bool, le-ltb, or_parts}
use Rattle.std.proofs.lemmas.List.{append-nil, get_or_append_left, length-replicate}
use Rattle.std.proofs.lemmas.List.Elements.{All-append, All-cons, All-head, All-nil, All-tail, All-weaker}
use Rattle.std.specs.List.{filter, list_any}
use Rattle.std.specs.Prelude.{codes, map, nat_lt}
use Rattle.std.specs.Str.{bytes_eq}
use Rattle.snd_disk.specs.Runs.{HasAt}
use Rattle.snd_chunks.proofs.Public.{chain_written, has_body, has_first, has_left, has_others, has_part, has_right, head_written, length-all_placed, length-chunk_bytes, length-chunks_bytes, MayPrecede, no_tail, walks}
use Rattle.snd_chunks.specs.Chunks.{chunk_at, padded_end}
use Rattle.snd_chunks.specs.Heads.{chunk_read}
use Rattle.snd_chunks.specs.Written.{NewChunk, all_placed, chunk_bytes, chunks_bytes, head_bytes, pad, placed}
use Rattle.snd_chunks.specs.declared.chunk.Chunk.{Chunk}
use Rattle.snd_chunks.specs.declared.front.Ending.TheVariants.{AtSound}
use Rattle.snd_chunks.specs.declared.front.Front.{Front}
use Rattle.snd_fields.proofs.Numbers.{number_of_bytes}
use Rattle.snd_fields.specs.Field.{number}
use Rattle.snd_fields.specs.declared.field.Order.TheVariants.{Big}
use Rattle.snd_layout.specs.Params.{Parameters, data_bytes}
use Rattle.snd_layout.specs.Sector.{is_in_one_sector}
use Rattle.snd_layout.specs.declared.piece.Piece.{Piece}
use Rattle.snd_chunks.specs.Parts.{held}
use Rattle.snd_wave.specs.Layout.{piece_of}
use Rattle.snd_svx.specs.Made.{HeadHasItsSize, MadeHoldsAll, MadeReadsBack, svx_made}
use Rattle.snd_svx.specs.Layout.{data_end, declared_in, header_chunk, header_of, is_header, is_own, is_pair, outer_end, pieces_of, shape_of, svx_front, svx_layout, svx_shape, svx_tail, voice, voice_of}
use Rattle.snd_svx.specs.Put.{HeadReadsBack}
use Rattle.snd_svx.specs.Values.{form_size}
use Rattle.snd_svx.specs.Written.{MayBeMade, MayBePiece, chunks_before, filler, form_head, head_for, head_size, junk, made_pieces, made_shape, new_header, start_without_filler, svx_head}
use Rattle.snd_svx.proofs.Agreements.{voice_by}
use Rattle.snd_svx.proofs.NewFiles.{good_voice, is_voice, new_voice}
use Rattle.snd_svx.proofs.Opens.{Opens, opened, refused}
use Rattle.snd_svx.proofs.Images.{same_shape, voice_bytes}
use Rattle.snd_svx.proofs.Putting.{length-head, length-head_for, no_bytes_yet, size_for}

-- ---- what pieces are not

not_body : (id : List ℕ) → is_own (placed id 0 0) ≡ false → bytes_eq id (codes "BODY") ≡ false
not_body id other = (or_parts _ _ (or_parts _ _ (or_parts _ _ (or_parts _ _ (or_parts _ _ other).0).0).0).0).1

not_pair : (id : List ℕ) → is_own (placed id 0 0) ≡ false → bytes_eq id (codes "CHAN") ≡ false
not_pair id other = (or_parts _ _ (or_parts _ _ (or_parts _ _ (or_parts _ _ (or_parts _ _ (or_parts _ _ other).0).0).0).0).0).1

precedes : (piece : NewChunk) → MayBePiece piece → MayPrecede (codes "BODY") piece
precedes piece is = record { four = is.four; few = omega (arith, is.few); other = not_body piece.id is.other }

filler_precedes : (p : Parameters) (pieces : List NewChunk) → All (MayPrecede (codes "BODY")) (filler p pieces)
filler_precedes p pieces = elim (cases_Bool (is_in_one_sector (start_without_filler p pieces - 4) 4)) [
  | inl is ↦ rw is (All-nil (MayPrecede (codes "BODY")))
  | inr other ↦ rw other (All-cons (MayPrecede (codes "BODY")) junk [] (record { four = refl; few = omega arith; other = refl }) (All-nil (MayPrecede (codes "BODY"))))
]

pub filler_few : (p : Parameters) (pieces : List NewChunk) → length (filler p pieces) ≤ 1
filler_few p pieces = elim (cases_Bool (is_in_one_sector (start_without_filler p pieces - 4) 4)) [
  | inl is ↦ rw is (omega arith)
  | inr other ↦ rw other (omega arith)
]

all_precede : (p : Parameters) (pieces : List NewChunk) (n : ℕ) → All MayBePiece pieces → All (MayPrecede (codes "BODY")) (chunks_before p pieces n)
all_precede p pieces n are =
    All-cons (MayPrecede (codes "BODY")) (new_header p.rate n) _ (record { four = refl; few = omega arith; other = refl })
    (All-append (MayPrecede (codes "BODY")) pieces _ (All-weaker MayBePiece (MayPrecede (codes "BODY")) precedes pieces are) (filler_precedes p pieces))

-- each piece is kept, and none is one of a pair
kept_pieces : (k : ℕ) (pieces rest : List NewChunk) → ((i : ℕ) → filter (λ chunk. not (is_own chunk)) (all_placed i rest) ≡ []) → All MayBePiece pieces → filter (λ chunk. not (is_own chunk)) (all_placed k (pieces ++ rest)) ≡ all_placed k pieces
unfolding all_placed
kept_pieces k [] rest none are = none k
kept_pieces k (piece ∷ pieces) rest none are =
    let is : MayBePiece piece = All-head MayBePiece piece pieces are in
    let other : is_own (placed piece.id k (length piece.body)) ≡ false = is.other in
    rw other (ap (λ (l : List Chunk). placed piece.id k (length piece.body) ∷ l) (kept_pieces (padded_end (k + 8) (length piece.body)) pieces rest none (All-tail MayBePiece piece pieces are)))

pub kept_all : (k : ℕ) (pieces : List NewChunk) → All MayBePiece pieces → filter (λ chunk. not (is_own chunk)) (all_placed k pieces) ≡ all_placed k pieces
unfolding all_placed
kept_all k pieces are = ap (λ (l : List NewChunk). filter (λ chunk. not (is_own chunk)) (all_placed k l)) (sym (append-nil pieces)) ∙ kept_pieces k pieces [] (λ i. refl) are

no_pairs : (b : List ℕ) (k : ℕ) (pieces rest : List NewChunk) → ((i : ℕ) → list_any (is_pair b) (all_placed i rest) ≡ false) → All MayBePiece pieces → list_any (is_pair b) (all_placed k (pieces ++ rest)) ≡ false
unfolding all_placed
no_pairs b k [] rest none are = none k
no_pairs b k (piece ∷ pieces) rest none are =
    let is : MayBePiece piece = All-head MayBePiece piece pieces are in
    let other : bytes_eq piece.id (codes "CHAN") ≡ false = not_pair piece.id is.other in
    rw other (no_pairs b (padded_end (k + 8) (length piece.body)) pieces rest none (All-tail MayBePiece piece pieces are))

filler_own : (p : Parameters) (pieces : List NewChunk) (i : ℕ) → filter (λ chunk. not (is_own chunk)) (all_placed i (filler p pieces)) ≡ []
unfolding all_placed
filler_own p pieces i = elim (cases_Bool (is_in_one_sector (start_without_filler p pieces - 4) 4)) [ inl is ↦ rw is refl | inr other ↦ rw other refl ]

filler_single : (b : List ℕ) (p : Parameters) (pieces : List NewChunk) (i : ℕ) → list_any (is_pair b) (all_placed i (filler p pieces)) ≡ false
unfolding all_placed
filler_single b p pieces i = elim (cases_Bool (is_in_one_sector (start_without_filler p pieces - 4) 4)) [ inl is ↦ rw is refl | inr other ↦ rw other refl ]

pieces_found : (p : Parameters) (pieces : List NewChunk) (n : ℕ) → All MayBePiece pieces → pieces_of false (all_placed 12 (chunks_before p pieces n)) ≡ made_pieces pieces
unfolding all_placed
pieces_found p pieces n are = ap (map (piece_of false)) (kept_pieces 40 pieces (filler p pieces) (filler_own p pieces) are)

single : (b : List ℕ) (p : Parameters) (pieces : List NewChunk) (n : ℕ) → All MayBePiece pieces → list_any (is_pair b) (all_placed 12 (chunks_before p pieces n)) ≡ false
unfolding all_placed
single b p pieces n are = no_pairs b 40 pieces (filler p pieces) (filler_single b p pieces) are

header_found : (p : Parameters) (pieces : List NewChunk) (n : ℕ) → header_chunk (all_placed 12 (chunks_before p pieces n)) ≡ Some (placed (codes "VHDR") 12 20)
unfolding all_placed
header_found p pieces n = refl

-- ---- the voice header

read_header : (b : List ℕ) (rate n : ℕ) → rate < 2 ^ 16 → HasAt b 20 (new_header rate n).body → header_of b (placed (codes "VHDR") 12 20) ≡ new_voice rate
read_header b rate n few has =
    let first : ◌≡◌ {A = ℕ} (get_or b 32 0) _ = has 12 (omega arith) in
    let second : ◌≡◌ {A = ℕ} (get_or b 33 0) _ = has 13 (omega arith) in
    let octaves : get_or b 34 0 ≡ 1 = has 14 (omega arith) in
    let packed : get_or b 35 0 ≡ 0 = has 15 (omega arith) in
    let rate_is : number Big b 32 2 ≡ rate = rw (first, second) (number_of_bytes Big 2 rate few) in
    rw (rate_is, octaves, packed) refl

-- ---- a file that begins with a head, and ends with the pad of the data

module _ (b : List ℕ) (p : Parameters) (pieces : List NewChunk) (n : ℕ) (may : MayBeMade p pieces) (in_room : data_bytes p n ≤ 2 ^ 32 + 6 - head_size p pieces) (has : HasAt b 0 (head_for p pieces n))
    (long : length b ≡ padded_end (head_size p pieces) (data_bytes p n)) (q : ℕ) (at : head_size p pieces ≡ q + 8) where
  abbrev sound : Chunk
  sound = placed (codes "BODY") q (data_bytes p n)

  abbrev found : Front
  found = record { chunks = all_placed 12 (chunks_before p pieces n); ending = AtSound sound }

  abbrev top : List ℕ
  top = form_head (form_size (head_size p pieces) (data_bytes p n))

  abbrev chunks : List ℕ
  chunks = chunks_bytes Big (chunks_before p pieces n)

  chunks_there : HasAt b 12 chunks
  unfolding head_for
  chunks_there = has_right b 0 12 top chunks refl (has_left b 0 (top ++ chunks) (head_bytes Big (codes "BODY") (data_bytes p n)) has)

  body_there : HasAt b q (head_bytes Big (codes "BODY") (data_bytes p n))
  unfolding head_for
  body_there =
      let size : length top ≡ 12 = refl in
      has_right b 0 q (top ++ chunks) (head_bytes Big (codes "BODY") (data_bytes p n)) (omega (arith, at, size, size_for p pieces n, length-append top chunks)) has

  front_is : svx_front b ≡ found
  unfolding svx_front
  front_is =
      walks (chunk_at Big b) (codes "BODY") (length b) 257 12 (all_placed 12 (chunks_before p pieces n)) q sound
      (chain_written Big b (codes "BODY") 12 q (chunks_before p pieces n) (all_precede p pieces n may.pieces_are) (omega (arith, at, size_for p pieces n)) (omega (arith, long, at)) chunks_there)
      (head_written Big b (codes "BODY") q (data_bytes p n) refl (omega (arith, in_room)) (omega (arith, long, at)) body_there)
      refl
      (omega (arith, length-all_placed 12 (chunks_before p pieces n), length-append pieces (filler p pieces), filler_few p pieces, may.few))

  header_is : voice_of b found.chunks (placed (codes "VHDR") 12 20) ≡ Ok (new_voice p.rate)
  header_is =
      let body : HasAt b 20 (new_header p.rate n).body = has_body Big b 12 (new_header p.rate n) refl (has_first Big b 12 (new_header p.rate n) (pieces ++ filler p pieces) chunks_there) in
      ap (λ (t : Bool). voice_by t (header_of b (placed (codes "VHDR") 12 20))) (single b p pieces n may.pieces_are)
      ∙ ap (voice_by false) (read_header b p.rate n (is_voice p may.params may.fits).1 body) ∙ good_voice p.rate may.params.some_rate

  data_there : held (length b) sound ≡ data_bytes p n
  data_there = omega (arith, long, at, in_room)

  bytes_are : data_bytes p n ≡ n
  bytes_are = ap (λ (r : Parameters). data_bytes r n) (is_voice p may.params may.fits).0 ∙ voice_bytes p.rate n

  ends : outer_end b ≤ data_end b sound
  ends = rw data_there (omega (arith, long, at))

  tail_is : svx_tail b found sound ≡ []
  tail_is = no_tail Big b (outer_end b) (256 - length found.chunks) (data_end b sound) ends

  kept : pieces_of false found.chunks ++ pieces_of true (svx_tail b found sound) ≡ made_pieces pieces
  kept = ap (λ (l : List Chunk). pieces_of false found.chunks ++ pieces_of true l) tail_is ∙ append-nil (pieces_of false found.chunks) ∙ pieces_found p pieces n may.pieces_are

  shape_is : svx_shape b found (new_voice p.rate) (placed (codes "VHDR") 12 20) sound ≡ made_shape p pieces n
  unfolding made_shape
  shape_is =
      same_shape (voice p.rate) (q + 8) (head_size p pieces) (held (length b) sound) n (declared_in sound) (data_bytes p n) 20 (nat_lt (data_end b sound) (outer_end b)) false _ (made_pieces pieces)
      (sym at) (data_there ∙ bytes_are) (omega (arith, in_room)) (le-ltb (data_end b sound) (outer_end b) ends) kept
      ∙ ap (λ (r : Parameters). shape_of r (head_size p pieces) n (data_bytes p n) 20 false (made_pieces pieces)) (sym (is_voice p may.params may.fits).0)

  opens_made : Opens b found (made_shape p pieces n)
  opens_made = record {
    chunk = placed (codes "VHDR") 12 20;
    sound = sound;
    header = new_voice p.rate;
    no_refusal = refused true sound found refl (ap is_header (header_found p pieces n));
    chunk_is = header_found p pieces n;
    sound_is = refl;
    header_is = header_is;
    shape = sym shape_is;
  }

  told : svx_layout b ≡ Ok (made_shape p pieces n)
  told = opened b (made_shape p pieces n) (subst (λ (f : Front). Opens b f (made_shape p pieces n)) (sym front_is) opens_made)

-- ---- a head alone

has_self : (x y : List ℕ) → HasAt (x ++ y) 0 x
has_self x y = λ j lt. let same : 0 + j ≡ j = omega arith in ap (λ k. get_or (x ++ y) k 0) same ∙ get_or_append_left x y 0 j lt

itself : (x : List ℕ) → HasAt x 0 x
itself x = λ j lt. ap (λ k. get_or x k 0) (omega arith)

unpadded : (p : Parameters) (pieces : List NewChunk) → MayBeMade p pieces → (data_bytes p 0 ≡ 0) × (length (svx_head p pieces) ≡ padded_end (head_size p pieces) (data_bytes p 0))
unpadded p pieces may =
    let none : data_bytes p 0 ≡ 0 = no_bytes_yet p may.params may.fits in
    let even : data_bytes p 0 % 2 ≡ 0 = ap (λ k. k % 2) none in
    (none, omega (arith, length-head p pieces, none, even))

-- the walk over a head sees the voice header, the pieces and the filler
pub walk_few : (p : Parameters) (pieces : List NewChunk) → MayBeMade p pieces → length (svx_front (svx_head p pieces)).chunks ≤ length pieces + 2
walk_few p pieces may =
    let at : head_size p pieces ≡ (head_size p pieces - 8) + 8 = omega arith in
    let size = unpadded p pieces may in
    let seen = ap (λ (f : Front). length f.chunks) (front_is (svx_head p pieces) p pieces 0 may (omega (arith, size.0)) (itself (svx_head p pieces)) size.1 (head_size p pieces - 8) at) in
    omega (arith, seen, length-all_placed 12 (chunks_before p pieces 0), length-append pieces (filler p pieces), filler_few p pieces)

pub heads_read_back : HeadReadsBack
heads_read_back p pieces may =
    let at : head_size p pieces ≡ (head_size p pieces - 8) + 8 = omega arith in
    let size = unpadded p pieces may in
    told (svx_head p pieces) p pieces 0 may (omega (arith, size.0)) (itself (svx_head p pieces)) size.1 (head_size p pieces - 8) at

-- ---- with frames

pub made_reads_back : MadeReadsBack
unfolding svx_made
made_reads_back p pieces n bytes may =
    let b : List ℕ = head_for p pieces n ++ bytes ++ pad (data_bytes p n) in
    let at : head_size p pieces ≡ (head_size p pieces - 8) + 8 = omega arith in
    let has : HasAt b 0 (head_for p pieces n) = has_left b 0 (head_for p pieces n) bytes (has_self (head_for p pieces n ++ bytes) (pad (data_bytes p n))) in
    let long : length b ≡ padded_end (head_size p pieces) (data_bytes p n) =
    omega (arith, length-append (head_for p pieces n ++ bytes) (pad (data_bytes p n)), length-append (head_for p pieces n) bytes, length-head_for p pieces n, may.coded, length-replicate {A = ℕ} (data_bytes p n % 2) 0) in
    told b p pieces n may.made may.in_room has long (head_size p pieces - 8) at

-- its pieces are read
pieces_read : (b : List ℕ) (place : ℕ) (pieces rest : List NewChunk) → All MayBePiece pieces → HasAt b place (chunks_bytes Big (pieces ++ rest)) → place + length (chunks_bytes Big (pieces ++ rest)) ≤ length b
    → map (chunk_read b) (map (piece_of false) (all_placed place pieces)) ≡ pieces
unfolding all_placed
pieces_read b place [] rest are has within = refl
pieces_read b place (piece ∷ pieces) rest are has within =
    let is : MayBePiece piece = All-head MayBePiece piece pieces are in
    let next : place + length (chunk_bytes Big piece) ≡ padded_end (place + 8) (length piece.body) = length-chunk_bytes Big piece place is.four in
    let all : length (chunks_bytes Big (piece ∷ (pieces ++ rest))) ≡ length (chunk_bytes Big piece) + length (chunks_bytes Big (pieces ++ rest)) = length-chunks_bytes Big piece (pieces ++ rest) in
    let body : take (length piece.body) (drop (place + 8) b) ≡ piece.body =
    has_part (length piece.body) b (place + 8) piece.body refl (omega (arith, within, all, next)) (has_body Big b place piece is.four (has_first Big b place piece (pieces ++ rest) has)) in
    let others = pieces_read b (padded_end (place + 8) (length piece.body)) pieces rest (All-tail MayBePiece piece pieces are) (has_others Big b place (padded_end (place + 8) (length piece.body)) piece (pieces ++ rest) (sym next) has) (omega (arith, within, all, next)) in
    ap (λ (l : List ℕ). (record { id = piece.id; body = l }) ∷ map (chunk_read b) (map (piece_of false) (all_placed (padded_end (place + 8) (length piece.body)) pieces))) body
    ∙ ap (λ (l : List NewChunk). piece ∷ l) others

pub made_holds_all : MadeHoldsAll
unfolding svx_made
made_holds_all p pieces n bytes may =
    let b : List ℕ = head_for p pieces n ++ bytes ++ pad (data_bytes p n) in
    let at : head_size p pieces ≡ (head_size p pieces - 8) + 8 = omega arith in
    let size : length b ≡ length (head_for p pieces n) + length bytes + length (pad (data_bytes p n)) =
    omega (arith, length-append (head_for p pieces n ++ bytes) (pad (data_bytes p n)), length-append (head_for p pieces n) bytes) in
    let both : HasAt b 0 (head_for p pieces n ++ bytes) = has_self (head_for p pieces n ++ bytes) (pad (data_bytes p n)) in
    let has : HasAt b 0 (head_for p pieces n) = has_left b 0 (head_for p pieces n) bytes both in
    let long : length b ≡ padded_end (head_size p pieces) (data_bytes p n) = omega (arith, size, length-head_for p pieces n, may.coded, length-replicate {A = ℕ} (data_bytes p n % 2) 0) in
    let chunks : HasAt b 12 (chunks_bytes Big (chunks_before p pieces n)) = chunks_there b p pieces n may.made may.in_room has long (head_size p pieces - 8) at in
    let first : 12 + length (chunk_bytes Big (new_header p.rate n)) ≡ 40 = length-chunk_bytes Big (new_header p.rate n) 12 refl in
    let fits = length-chunks_bytes Big (new_header p.rate n) (pieces ++ filler p pieces) in (
      pieces_read b 40 pieces (filler p pieces) may.made.pieces_are (has_others Big b 12 40 (new_header p.rate n) (pieces ++ filler p pieces) (sym first) chunks)
          (omega (arith, size, length-head_for p pieces n, size_for p pieces n, first, fits)),
      has_part (data_bytes p n) b (head_size p pieces) bytes (sym may.coded) (omega (arith, size, length-head_for p pieces n, may.coded)) (has_right b 0 (head_size p pieces) (head_for p pieces n) bytes (omega (arith, length-head_for p pieces n)) both),
    )

pub length_head_for : HeadHasItsSize
length_head_for p pieces n = length-head_for p pieces n
