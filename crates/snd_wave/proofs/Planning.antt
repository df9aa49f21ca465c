-- What changes among the pieces of a head as one is put into it.
use Rattle.std.proofs.Common.{◌≡◌, ℕ, suc, ◌+◌, ◌-◌, ◌≤◌, ◌<◌, List, [], ◌∷◌, ◌++◌, All, Option, None, Some, false, length, take, drop, refl, sym, ap, ◌∙◌, arith, length-append, append_assoc, inl, inr, subst}
use Rattle.std.proofs.lemmas.Bool.{cases_Bool, eqb-true}
use Rattle.std.proofs.lemmas.List.{drop_all, length-take, length-drop, take_all}
use Rattle.std.proofs.lemmas.List.Elements.{All-append, All-cons, All-take, All-drop}
use Rattle.std.specs.Prelude.{◌==◌, if◌then◌else◌, slice_get}
use Rattle.snd_chunks.proofs.Public.{length-chunk_bytes, length-chunks_bytes}
use Rattle.snd_chunks.specs.Chunks.{padded_end}
use Rattle.snd_chunks.specs.Written.{NewChunk, all_placed, chunk_bytes, chunks_bytes}
use Rattle.snd_fields.specs.declared.field.Order.{Order}
use Rattle.snd_layout.specs.Shape.{IsPlaced}
use Rattle.snd_layout.specs.declared.piece.Piece.{Piece}
use Rattle.snd_wave.specs.Changes.{IsPlan}
use Rattle.snd_chunks.specs.Heads.{with_piece}
use Rattle.snd_wave.specs.Relaid.{AreStanding, IsSmall, behind_piece, relaid, relaid_end, standing}
use Rattle.snd_wave.specs.declared.plan.Plan.{Plan}
use Rattle.snd_wave.proofs.Relaying.{as_many, behind_standing, bytes_few, drop_standing, end_standing, length-joined, none_behind, placed_standing, relaid_standing, standing-append, take_standing}

abbrev pub laid_as : NewChunk → Piece
laid_as piece = record { id = record { 0 = piece.id }; at = 0; len = length piece.body; after = false }

one_standing : (q : ℕ) (piece : NewChunk) → relaid q (laid_as piece ∷ []) ≡ standing q (piece ∷ [])
unfolding standing all_placed
one_standing q piece = refl

one_more : (q : ℕ) (piece : NewChunk) (back : List NewChunk) → standing q (piece ∷ back) ≡ standing q (piece ∷ []) ++ standing (padded_end (q + 8) (length piece.body)) back
unfolding standing all_placed
one_more q piece back = refl

-- the pieces with one put are small and few
module _ (pieces : List NewChunk) (place : ℕ) (piece : NewChunk) where
  pub new_are : (P : NewChunk → Type 0) → All P pieces → P piece → All P (with_piece pieces place piece)
  new_are P are is = All-append P (take place pieces) _ (All-take P place pieces are) (All-cons P piece _ is (All-drop P (place + 1) pieces are))

  pub new_few : place ≤ length pieces → place < 240 → length pieces ≤ 240 → length (with_piece pieces place piece) ≤ 240
  new_few within few all = omega (arith, length-append (take place pieces) (piece ∷ drop (place + 1) pieces), length-take place pieces, length-drop (place + 1) pieces, within, few, all)

module _ (order : Order) (first : ℕ) (pieces : List NewChunk) (place : ℕ) (piece : NewChunk) (old : List Piece) (are : AreStanding first old pieces) (is : IsSmall piece) where
  abbrev front : List NewChunk
  front = take place pieces

  abbrev back : List NewChunk
  back = drop (place + 1) pieces

  front_are : All IsSmall front
  front_are = All-take IsSmall place pieces are.small

  back_are : All IsSmall back
  back_are = All-drop IsSmall (place + 1) pieces are.small

  front_is : take place old ≡ standing first front
  front_is = ap (take place) are.stand ∙ take_standing place first pieces

  back_is : (r : ℕ) × (drop (place + 1) old ≡ standing r back)
  back_is = let stands = drop_standing (place + 1) first pieces in (stands.0, ap (drop (place + 1)) are.stand ∙ stands.1)

  -- the ends
  front_end : (q : ℕ) → relaid_end q (take place old) ≡ q + length (chunks_bytes order front)
  front_end q = ap (relaid_end q) front_is ∙ end_standing order q first front front_are

  piece_end : (q : ℕ) → relaid_end q (laid_as piece ∷ []) ≡ q + length (chunk_bytes order piece)
  piece_end q = omega (arith, length-chunk_bytes order piece q is.four)

  back_end : (q : ℕ) → relaid_end q (drop (place + 1) old) ≡ q + length (chunks_bytes order back)
  back_end q = ap (relaid_end q) back_is.1 ∙ end_standing order q back_is.0 back back_are

  -- all pieces, and their bytes
  all_bytes : length (chunks_bytes order (with_piece pieces place piece)) ≡ length (chunks_bytes order front) + length (chunk_bytes order piece) + length (chunks_bytes order back)
  all_bytes = omega (arith, length-joined order front (piece ∷ back), length-chunks_bytes order piece back)

  within : place ≤ length old → place ≤ length pieces
  within there = omega (arith, there, ap length are.stand, as_many first pieces)

  all_few : place ≤ length old → place < 240 → length (chunks_bytes order (with_piece pieces place piece)) ≤ 15730560
  all_few there few = omega (arith, bytes_few order (with_piece pieces place piece) (new_are pieces place piece IsSmall are.small is), new_few pieces place piece (within there) few are.few)

  -- how far the pieces reach that are laid anew
  pub ends_are : (at next end : ℕ) → at ≡ relaid_end first (take place old) → next ≡ relaid_end at (laid_as piece ∷ []) → end ≡ relaid_end next (drop (place + 1) old)
      → end ≡ first + length (chunks_bytes order (with_piece pieces place piece))
  ends_are at next end at_is next_is end_is = omega (arith, at_is, front_end first, next_is, piece_end at, end_is, back_end next, all_bytes)

  pub fit : (at next end : ℕ) → at ≡ relaid_end first (take place old) → next ≡ relaid_end at (laid_as piece ∷ []) → end ≡ relaid_end next (drop (place + 1) old) → place ≤ length old → place < 240 → first ≤ 128
      → (first ≤ at) × (at ≤ next) × (next ≤ end) × (end + 65536 ≤ 16777216)
  fit at next end at_is next_is end_is there few low =
      let ends = ends_are at next end at_is next_is end_is in
      (omega (arith, at_is, front_end first), omega (arith, next_is, piece_end at), omega (arith, end_is, back_end next), omega (arith, ends, all_few there few, low))

  -- all pieces are placed, the old ones and the new ones
  pub old_placed : first ≤ 128 → All IsPlaced old
  old_placed low = subst (All IsPlaced) (sym are.stand) (placed_standing order first pieces are.small (omega (arith, low, bytes_few order pieces are.small, are.few)))

  pub new_placed : place ≤ length old → place < 240 → first ≤ 128 → (anew : List Piece) → anew ≡ standing first (with_piece pieces place piece) → All IsPlaced anew
  new_placed there few low anew stand =
      subst (All IsPlaced) (sym stand) (placed_standing order first (with_piece pieces place piece) (new_are pieces place piece IsSmall are.small is) (omega (arith, low, all_few there few)))

  -- nothing stands behind all pieces
  pub none_behind_all : (next : ℕ) → place ≡ length old → relaid_end next (drop (place + 1) old) ≡ next
  none_behind_all next last = let none : drop (place + 1) old ≡ [] = drop_all (place + 1) old (omega (arith, last)) in rw none refl

  all_laid : (at next : ℕ) → at ≡ first + length (chunks_bytes order front) → next ≡ padded_end (at + 8) (length piece.body)
      → relaid first (take place old) ++ relaid at (laid_as piece ∷ []) ++ relaid next (drop (place + 1) old) ≡ standing first (with_piece pieces place piece)
  all_laid at next at_is next_is =
      let start : relaid first (take place old) ≡ standing first front = ap (relaid first) front_is ∙ relaid_standing first first front in
      let last : relaid next (drop (place + 1) old) ≡ standing next back = ap (relaid next) back_is.1 ∙ relaid_standing next back_is.0 back in
      let joined : standing at (piece ∷ back) ≡ standing at (piece ∷ []) ++ standing next back = rw next_is (one_more at piece back) in
      rw (start, one_standing at piece, last)
      (append_assoc (standing first front) (standing at (piece ∷ [])) (standing next back)
      ∙ ap (λ (l : List Piece). standing first front ++ l) (sym joined)
      ∙ ap (λ (k : ℕ). standing first front ++ standing k (piece ∷ back)) at_is
      ∙ sym (standing-append order first front (piece ∷ back) front_are))

  from_is : (at : ℕ) (found : Option Piece) → slice_get old place ≡ found → at ≡ first + length (chunks_bytes order front) → behind_piece found at ≡ first + length (chunks_bytes order (take (place + 1) pieces))
  from_is at (Some x) there at_is =
      let next : suc place ≡ place + 1 = omega arith in
      behind_standing order first place pieces x are.small (ap (λ (l : List Piece). slice_get l place) (sym are.stand) ∙ there) ∙ ap (λ k. first + length (chunks_bytes order (take k pieces))) next
  from_is at None none at_is =
      let behind : length pieces ≤ place = none_behind first place pieces (ap (λ (l : List Piece). slice_get l place) (sym are.stand) ∙ none) in
      let all : take place pieces ≡ pieces = take_all place pieces behind in
      let more : take (place + 1) pieces ≡ pieces = take_all (place + 1) pieces (omega (arith, behind)) in
      at_is ∙ ap (λ (l : List NewChunk). first + length (chunks_bytes order l)) (all ∙ sym more)

  pub planned : (next : ℕ) (change : Plan) → change.at ≡ relaid_end first (take place old) → next ≡ relaid_end change.at (laid_as piece ∷ []) → change.end ≡ relaid_end next (drop (place + 1) old)
      → change.from ≡ behind_piece (slice_get old place) change.at → change.count ≡ change.end - next
      → change.pieces ≡ relaid first (take place old) ++ relaid change.at (laid_as piece ∷ []) ++ relaid next (drop (place + 1) old)
      → IsPlan order first pieces place piece change
  planned next change at_is next_is end_is from_at counted put_as =
      let at_head = at_is ∙ front_end first in
      record {
        at_head = at_head;
        from_behind = from_at ∙ from_is change.at (slice_get old place) refl at_head;
        counted = omega (arith, counted, end_is, back_end next);
        ended = ends_are change.at next change.end at_is next_is end_is;
        laid_anew = put_as ∙ all_laid change.at next at_head next_is;
      }

-- what is asked for, by whether there is something behind
pub asked_for : (count place len : ℕ) → (place ≡ len → count ≡ 0) → count ≤ 16711680 → count ≤ (if place == len then 0 else 16711680)
asked_for count place len none few = elim (cases_Bool (place == len)) [
  | inl last ↦
      let zero : count ≡ 0 = none (eqb-true place len last) in
      rw last (omega (arith, zero))
  | inr other ↦ rw other few
]
