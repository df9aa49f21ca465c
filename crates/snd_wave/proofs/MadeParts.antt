-- What is made holds its pieces and its data.
use Rattle.std.proofs.Common.{◌≡◌, ℕ, ◌+◌, ◌≤◌, List, [], ◌∷◌, ◌++◌, All, Option, None, false, length, take, drop, refl, sym, subst, ap, ◌∙◌, arith, length-append}
use Rattle.std.proofs.lemmas.List.Elements.{All-head, All-tail}
use Rattle.std.specs.Prelude.{map}
use Rattle.snd_disk.specs.Runs.{HasAt}
use Rattle.snd_chunks.proofs.Public.{has_body, has_first, has_left, has_others, has_part, has_right, length-chunk_bytes, length-chunks_bytes}
use Rattle.snd_chunks.specs.Chunks.{padded_end}
use Rattle.snd_chunks.specs.Written.{NewChunk, all_placed, chunk_bytes, chunks_bytes, pad}
use Rattle.snd_fields.specs.declared.field.Order.TheVariants.{Little}
use Rattle.snd_layout.specs.Params.{Parameters, data_bytes}
use Rattle.snd_wave.specs.Layout.{piece_of}
use Rattle.snd_chunks.specs.Heads.{chunk_read}
use Rattle.snd_wave.specs.Written.{MadeHoldsAll, MayBePiece, ReservedHoldsAll, lead_end, lead_of, new_fact, new_format, reserved_chunks, reserved_filler, reserved_first, reserved_head, reserved_made, reserved_pieces, reserved_size}
use Rattle.snd_wave.proofs.Made.{has_behind, has_chunks, has_self, length-reserved_head}
use Rattle.snd_wave.proofs.NewHeads.{bytes-append, lead_bytes, size_is}

pieces_read : (b : List ℕ) (place : ℕ) (pieces rest : List NewChunk) → All MayBePiece pieces → HasAt b place (chunks_bytes Little (pieces ++ rest)) → place + length (chunks_bytes Little (pieces ++ rest)) ≤ length b
    → map (chunk_read b) (map (piece_of false) (all_placed place pieces)) ≡ pieces
unfolding all_placed
pieces_read b place [] rest are has within = refl
pieces_read b place (piece ∷ pieces) rest are has within =
    let is : MayBePiece piece = All-head MayBePiece piece pieces are in
    let next : place + length (chunk_bytes Little piece) ≡ padded_end (place + 8) (length piece.body) = length-chunk_bytes Little piece place is.four in
    let all : length (chunks_bytes Little (piece ∷ (pieces ++ rest))) ≡ length (chunk_bytes Little piece) + length (chunks_bytes Little (pieces ++ rest)) = length-chunks_bytes Little piece (pieces ++ rest) in
    let body : take (length piece.body) (drop (place + 8) b) ≡ piece.body =
    has_part (length piece.body) b (place + 8) piece.body refl (omega (arith, within, all, next)) (has_body Little b place piece is.four (has_first Little b place piece (pieces ++ rest) has)) in
    let others = pieces_read b (padded_end (place + 8) (length piece.body)) pieces rest (All-tail MayBePiece piece pieces are) (has_others Little b place (padded_end (place + 8) (length piece.body)) piece (pieces ++ rest) (sym next) has) (omega (arith, within, all, next)) in
    ap (λ (l : List ℕ). (record { id = piece.id; body = l }) ∷ map (chunk_read b) (map (piece_of false) (all_placed (padded_end (place + 8) (length piece.body)) pieces))) body
    ∙ ap (λ (l : List NewChunk). piece ∷ l) others

module _ (b : List ℕ) (r : Option ℕ) (p : Parameters) (pieces : List NewChunk) (n : ℕ) where
  kept : All MayBePiece pieces → HasAt b 12 (chunks_bytes Little (reserved_chunks r p pieces n)) → 12 + length (chunks_bytes Little (reserved_chunks r p pieces n)) ≤ length b → map (chunk_read b) (reserved_pieces r p pieces) ≡ pieces
  unfolding reserved_pieces reserved_chunks
  kept are has within =
      let behind : List NewChunk = pieces ++ (reserved_filler r p pieces ++ new_fact p.codec n) in
      let next = length-chunk_bytes Little (new_format p) (lead_end r) refl in
      let format : HasAt b (lead_end r) (chunks_bytes Little (new_format p ∷ behind)) = subst (λ (k : ℕ). HasAt b k (chunks_bytes Little (new_format p ∷ behind))) (lead_bytes r) (has_behind b 12 (lead_of r) (new_format p ∷ behind) has) in
      pieces_read b (reserved_first r p) pieces (reserved_filler r p pieces ++ new_fact p.codec n) are
      (has_others Little b (lead_end r) (reserved_first r p) (new_format p) behind (sym next) format)
      (omega (arith, within, next, lead_bytes r, bytes-append (lead_of r) (new_format p ∷ behind), length-chunks_bytes Little (new_format p) behind))

pub reserved_holds_all : ReservedHoldsAll
unfolding reserved_made
reserved_holds_all r p pieces n bytes may len =
    let b : List ℕ = reserved_head r p pieces n ++ bytes ++ pad (data_bytes p n) in
    let size : length b ≡ length (reserved_head r p pieces n) + length bytes + length (pad (data_bytes p n)) =
    omega (arith, length-append (reserved_head r p pieces n ++ bytes) (pad (data_bytes p n)), length-append (reserved_head r p pieces n) bytes) in
    let both : HasAt b 0 (reserved_head r p pieces n ++ bytes) = has_self (reserved_head r p pieces n ++ bytes) (pad (data_bytes p n)) in (
      kept b r p pieces n may.pieces_are (has_chunks r p pieces n b (has_left b 0 (reserved_head r p pieces n) bytes both)) (omega (arith, size, length-reserved_head r p pieces n, size_is r p pieces n)),
      has_part (data_bytes p n) b (reserved_size r p pieces) bytes (sym len) (omega (arith, size, length-reserved_head r p pieces n, len)) (has_right b 0 (reserved_size r p pieces) (reserved_head r p pieces n) bytes (omega (arith, length-reserved_head r p pieces n)) both),
    )

pub made_holds_all : MadeHoldsAll
made_holds_all p pieces n bytes may len = reserved_holds_all None p pieces n bytes may len
