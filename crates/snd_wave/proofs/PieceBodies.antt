-- The bodies of the further chunks of a file are no more bytes than the file.
use Rattle.std.proofs.Common.{◌≡◌, ap, refl, ℕ, ◌+◌, ◌-◌, ◌≤◌, Bool, true, false, List, [], ◌∷◌, ◌++◌, Ok, inl, inr, length, arith}
use Rattle.std.proofs.lemmas.Bool.{cases_Bool}
use Rattle.std.proofs.lemmas.List.Sums.{sum_by-append, sum_by-cons}
use Rattle.std.specs.List.{filter, sum_by}
use Rattle.std.specs.Prelude.{codes, map, not}
use Rattle.snd_chunks.proofs.Public.{front_lens, lens, lens_cons, reaches, tail_lens}
use Rattle.snd_chunks.specs.Chunks.{chunk_at}
use Rattle.snd_chunks.specs.declared.chunk.Chunk.{Chunk}
use Rattle.snd_fields.specs.declared.field.Order.TheVariants.{Little}
use Rattle.snd_layout.specs.Shape.{Shape}
use Rattle.snd_layout.specs.declared.piece.Piece.{Piece}
use Rattle.snd_wave.proofs.Opens.{opens as wave_opens}
use Rattle.snd_wave.specs.Layout.{data_end, is_own, outer_end, piece_of, pieces_of, wave_front, wave_layout, wave_tail}

-- the bytes of the bodies of pieces
abbrev pub body_bytes : List Piece → ℕ
body_bytes pieces = sum_by (λ (piece : Piece). piece.len) pieces

bytes_cons : (p : Piece) (ps : List Piece) → body_bytes (p ∷ ps) ≡ p.len + body_bytes ps
bytes_cons p ps = sum_by-cons (λ (q : Piece). q.len) p ps

-- the pieces are some of the chunks

module _ (after : Bool) (kept : Chunk → Bool) where
  some_lens : (chunks : List Chunk) → body_bytes (map (piece_of after) (filter kept chunks)) ≤ lens chunks
  some_lens [] = omega arith
  some_lens (chunk ∷ chunks) = elim (cases_Bool (kept chunk)) [
    | inl is ↦
        let found : filter kept (chunk ∷ chunks) ≡ chunk ∷ filter kept chunks = rw is refl in
        omega (arith, ap (λ (l : List Chunk). body_bytes (map (piece_of after) l)) found, bytes_cons (piece_of after chunk) (map (piece_of after) (filter kept chunks)), lens_cons chunk chunks, some_lens chunks)
    | inr other ↦
        let same : filter kept (chunk ∷ chunks) ≡ filter kept chunks = rw other refl in
        omega (arith, ap (λ (l : List Chunk). body_bytes (map (piece_of after) l)) same, lens_cons chunk chunks, some_lens chunks)
  ]

-- both lists in one file
pub both_fit : (size at end begin : ℕ) (front back : List Chunk) → lens front ≤ at → at ≤ size → lens back ≤ end - begin → end ≤ size → at ≤ begin
    → body_bytes (pieces_of false front ++ pieces_of true back) ≤ size
both_fit size at end begin front back before within behind ends later =
    omega (arith, sum_by-append (λ (p : Piece). p.len) (pieces_of false front) (pieces_of true back), some_lens false (λ c. not (is_own c)) front, some_lens true (λ c. not (is_own c)) back, before, within, behind, ends, later)

pub wave_fits : (b : List ℕ) (h : Shape) → wave_layout b ≡ Ok h → body_bytes h.pieces ≤ length b
unfolding wave_front
wave_fits b h is =
    let from = wave_opens b h is in
    let chunks : List Chunk = (wave_front b).chunks in
    let reach = reaches (chunk_at Little b) (codes "data") (length b) 257 12 (wave_front b) from.sound refl from.sound_is in
    let before = front_lens b (codes "data") (length b) 257 12 chunks from.sound reach in
    let end : ℕ = outer_end b in
    let begin : ℕ = data_end b from.sound in
    let back : List Chunk = wave_tail b (wave_front b) from.sound in
    let behind : lens back ≤ end - begin = tail_lens b end (256 - length chunks) begin in
    let within : end ≤ length b = omega arith in
    let later : from.sound.at ≤ begin = omega arith in
    omega (arith, ap (λ (s : Shape). body_bytes s.pieces) from.shape, both_fit (length b) from.sound.at end begin chunks back before.0 before.1 behind within later)
