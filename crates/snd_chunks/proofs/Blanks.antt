-- The pieces of a head with zeros in place of their bodies: a layout knows no more of them.
use Rattle.std.proofs.Common.{◌≡◌, ◌∙◌, ap, sym, refl, ℕ, zero, suc, ◌+◌, ◌≤◌, false, List, [], ◌∷◌, ◌++◌, All, length, take, drop, arith}
use Rattle.std.specs.Prelude.{map, replicate}
use Rattle.std.proofs.lemmas.List.{length-append, length-replicate, map-append, take-map}
use Rattle.std.proofs.lemmas.List.Elements.{All-cons, All-head, All-nil, All-tail}
use Rattle.snd_disk.specs.Runs.{HasAt}
use Rattle.snd_chunks.specs.Chunks.{padded_end}
use Rattle.snd_chunks.specs.declared.chunk.Chunk.{Chunk}
use Rattle.snd_chunks.specs.Written.{NewChunk, all_placed, chunk_bytes, chunks_bytes, head_bytes, pad}
use Rattle.snd_chunks.proofs.WrittenChunks.{has_body, has_first, has_others, has_part, length-chunk_bytes, length-chunks_bytes}
use Rattle.snd_fields.specs.Field.{bytes_of}
use Rattle.snd_fields.specs.declared.field.Order.{Order}
use Rattle.snd_layout.specs.declared.piece.Piece.{Piece}
use Rattle.snd_chunks.specs.Heads.{blank, blanks, chunk_read, outline, with_piece}

-- a chunk that stands before the data, as a piece
abbrev standing : Chunk → Piece
standing c = record { id = c.id; at = c.at; len = c.len; after = false }

blank_blank : (c : NewChunk) → blank (blank c) ≡ blank c
unfolding blank
blank_blank c = ap (λ (k : ℕ). record { id = c.id; body = replicate k 0 }) (length-replicate (length c.body) 0)

pub blanks_blanks : (cs : List NewChunk) → blanks (blanks cs) ≡ blanks cs
blanks_blanks [] = refl
blanks_blanks (c ∷ cs) = ap (λ (x : NewChunk). x ∷ blanks (blanks cs)) (blank_blank c) ∙ ap (λ (l : List NewChunk). blank c ∷ l) (blanks_blanks cs)

pub same_id : (c : NewChunk) → (blank c).id ≡ c.id
unfolding blank
same_id c = refl

pub same_length : (c : NewChunk) → length (blank c).body ≡ length c.body
unfolding blank
same_length c = length-replicate (length c.body) 0

-- their bytes are as many, and they stand at the same places
one_length : (order : Order) (c : NewChunk) → length (chunk_bytes order (blank c)) ≡ length (chunk_bytes order c)
unfolding blank chunk_bytes head_bytes
one_length order c =
    let n = length c.body in
    let len : length (replicate n 0) ≡ n = length-replicate n 0 in
    let parts : (body : List ℕ) → length (c.id ++ bytes_of order 4 (length body) ++ body ++ pad (length body)) ≡ length c.id + length (bytes_of order 4 (length body)) + length body + length (pad (length body)) =
    λ body. omega (arith, length-append (c.id ++ bytes_of order 4 (length body) ++ body) (pad (length body)), length-append (c.id ++ bytes_of order 4 (length body)) body, length-append c.id (bytes_of order 4 (length body))) in
    parts (replicate n 0) ∙ ap (λ (k : ℕ). length c.id + length (bytes_of order 4 k) + k + length (pad k)) len ∙ sym (parts c.body)

pub all_length : (order : Order) (cs : List NewChunk) → length (chunks_bytes order (blanks cs)) ≡ length (chunks_bytes order cs)
all_length order [] = refl
all_length order (c ∷ cs) = omega (arith, length-chunks_bytes order (blank c) (blanks cs), length-chunks_bytes order c cs, one_length order c, all_length order cs)

pub all_stand : (q : ℕ) (cs : List NewChunk) → map standing (all_placed q (blanks cs)) ≡ map standing (all_placed q cs)
unfolding all_placed blank
all_stand q [] = refl
all_stand q (c ∷ cs) =
    ap (λ (k : ℕ). record { id = record { 0 = c.id }; at = q + 8; len = k; after = false } ∷ map standing (all_placed (padded_end (q + 8) k) (blanks cs))) (length-replicate (length c.body) 0)
    ∙ ap (λ (l : List Piece). record { id = record { 0 = c.id }; at = q + 8; len = length c.body; after = false } ∷ l) (all_stand (padded_end (q + 8) (length c.body)) cs)

-- they all stand before the data
pub all_before : (cs : List Chunk) → All (λ (piece : Piece). piece.after ≡ false) (map standing cs)
all_before [] = All-nil (λ (piece : Piece). piece.after ≡ false)
all_before (c ∷ cs) = All-cons (λ (piece : Piece). piece.after ≡ false) (standing c) (map standing cs) refl (all_before cs)

-- a layout knows a piece by its outline
pub outlines_standing : (q : ℕ) (cs : List NewChunk) → map outline (map standing (all_placed q cs)) ≡ blanks cs
unfolding all_placed blank
outlines_standing q [] = refl
outlines_standing q (c ∷ cs) = ap (λ (l : List NewChunk). blank c ∷ l) (outlines_standing (padded_end (q + 8) (length c.body)) cs)

-- what holds of each holds of those of zeros
pub blanks_keep : (P : NewChunk → Type 0) → ((c : NewChunk) → P c → P (blank c)) → (cs : List NewChunk) → All P cs → All P (blanks cs)
blanks_keep P keeps [] are = All-nil P
blanks_keep P keeps (c ∷ cs) are = All-cons P (blank c) (blanks cs) (keeps c (All-head P c cs are)) (blanks_keep P keeps cs (All-tail P c cs are))

drop_map : (k : ℕ) (cs : List NewChunk) → drop k (blanks cs) ≡ blanks (drop k cs)
drop_map zero cs = refl
drop_map (suc k) [] = refl
drop_map (suc k) (c ∷ cs) = drop_map k cs

pub blanks_with : (cs : List NewChunk) (place : ℕ) (piece : NewChunk) → blanks (with_piece cs place piece) ≡ with_piece (blanks cs) place (blank piece)
blanks_with cs place piece =
    map-append blank (take place cs) (piece ∷ drop (place + 1) cs)
    ∙ ap (λ (l : List NewChunk). l ++ blank piece ∷ blanks (drop (place + 1) cs)) (sym (take-map blank place cs))
    ∙ ap (λ (l : List NewChunk). take place (blanks cs) ++ blank piece ∷ l) (sym (drop_map (place + 1) cs))

-- chunks that stand in a file, one behind the other, are read back
pub pieces_read : (order : Order) (b : List ℕ) (place : ℕ) (pieces : List NewChunk) → All (λ (c : NewChunk). length c.id ≡ 4) pieces → HasAt b place (chunks_bytes order pieces) → place + length (chunks_bytes order pieces) ≤ length b
    → map (chunk_read b) (map standing (all_placed place pieces)) ≡ pieces
unfolding all_placed
pieces_read order b place [] are has within = refl
pieces_read order b place (piece ∷ pieces) are has within =
    let four : length piece.id ≡ 4 = All-head (λ (c : NewChunk). length c.id ≡ 4) piece pieces are in
    let next : place + length (chunk_bytes order piece) ≡ padded_end (place + 8) (length piece.body) = length-chunk_bytes order piece place four in
    let all : length (chunks_bytes order (piece ∷ pieces)) ≡ length (chunk_bytes order piece) + length (chunks_bytes order pieces) = length-chunks_bytes order piece pieces in
    let body : take (length piece.body) (drop (place + 8) b) ≡ piece.body =
    has_part (length piece.body) b (place + 8) piece.body refl (omega (arith, within, all, next)) (has_body order b place piece four (has_first order b place piece pieces has)) in
    let others = pieces_read order b (padded_end (place + 8) (length piece.body)) pieces (All-tail (λ (c : NewChunk). length c.id ≡ 4) piece pieces are)
    (has_others order b place (padded_end (place + 8) (length piece.body)) piece pieces (sym next) has) (omega (arith, within, all, next)) in
    ap (λ (l : List ℕ). (record { id = piece.id; body = l }) ∷ map (chunk_read b) (map standing (all_placed (padded_end (place + 8) (length piece.body)) pieces))) body
    ∙ ap (λ (l : List NewChunk). piece ∷ l) others
