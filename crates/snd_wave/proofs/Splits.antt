-- A head into which a piece is put is the head of the pieces with that one, in every kind whose heads are so split: first bytes
-- with the size of the whole, the pieces from one place on, and what closes them.
use Rattle.std.proofs.Common.{◌≡◌, ℕ, ◌+◌, ◌≤◌, ◌<◌, List, ◌∷◌, ◌++◌, Option, None, Some, length, take, drop, refl, sym, ap, ◌∙◌, arith, length-append, append_assoc}
use Rattle.std.proofs.lemmas.List.{places, same_lists, take-append-drop}
use Rattle.std.specs.Prelude.{option_map}
use Rattle.snd_disk.specs.Bytes.{over}
use Rattle.snd_disk.specs.State.{State}
use Rattle.snd_chunks.proofs.Public.{length-chunks_bytes}
use Rattle.snd_chunks.specs.Written.{NewChunk, chunk_bytes, chunks_bytes}
use Rattle.snd_fields.specs.declared.field.Order.{Order}
use Rattle.snd_layout.specs.Params.{Parameters}
use Rattle.snd_layout.specs.Shape.{Shape}
use Rattle.snd_wave.specs.Changes.{CanChange, IsChanged, IsPlan, changed}
use Rattle.snd_chunks.specs.Heads.{Heads, IsHeadIn, with_piece}
use Rattle.snd_wave.specs.declared.plan.Plan.{Plan}
use Rattle.snd_wave.specs.declared.rest.Closing.{Closing}
use Rattle.snd_wave.proofs.Relaying.{chunks-joined, length-joined}

-- bytes put behind others, and in the place of as many
over_end : (x t : List ℕ) (at : ℕ) → at ≡ length x → over x at t ≡ x ++ t
over_end x t at is = same_lists _ _ (grind (arith, places)) (λ i d lt. grind (arith, places))

over_part : (a s z v : List ℕ) (at : ℕ) → at ≡ length a → length v ≡ length s → over (a ++ s ++ z) at v ≡ a ++ v ++ z
over_part a s z v at is same = same_lists _ _ (grind (arith, places)) (λ i d lt. grind (arith, places))

first_part : (x y : List ℕ) (at : ℕ) → at ≡ length x → take at (x ++ y) ≡ x
first_part x y at is = same_lists _ _ (grind (arith, places)) (λ i d lt. grind (arith, places))

middle_part : (x m y : List ℕ) (from count : ℕ) → from ≡ length x → count ≡ length m → take count (drop from (x ++ (m ++ y))) ≡ m
middle_part x m y from count is same = same_lists _ _ (grind (arith, places)) (λ i d lt. grind (arith, places))

-- what is changed, by its parts: the first bytes, the size, the bytes behind it, the chunks before the piece, and what stands behind them
changed_parts : (a s v f c t x m y n z b : List ℕ) (four at from count : ℕ) → b ≡ ((a ++ s ++ f) ++ c) ++ t → four ≡ length a → length v ≡ length s → at ≡ length ((a ++ s ++ f) ++ c) → b ≡ x ++ (m ++ y) → from ≡ length x → count ≡ length m
    → over (over (take at b) at (n ++ take count (drop from b) ++ z)) four v ≡ ((a ++ v ++ f) ++ c) ++ ((n ++ m) ++ z)
changed_parts a s v f c t x m y n z b four at from count whole mark same at_is whole' from_is count_is =
    let front : take at b ≡ (a ++ s ++ f) ++ c = ap (take at) whole ∙ first_part ((a ++ s ++ f) ++ c) t at at_is in
    let behind : take count (drop from b) ≡ m = ap (λ (l : List ℕ). take count (drop from l)) whole' ∙ middle_part x m y from count from_is count_is in
    let joined : ((a ++ s ++ f) ++ c) ++ (n ++ m ++ z) ≡ a ++ s ++ (f ++ c ++ (n ++ m ++ z)) = simp append_assoc in
    let back : a ++ v ++ (f ++ c ++ (n ++ m ++ z)) ≡ ((a ++ v ++ f) ++ c) ++ ((n ++ m) ++ z) = simp append_assoc in
    rw (front, behind) (ap (λ (l : List ℕ). over l four v) (over_end ((a ++ s ++ f) ++ c) (n ++ m ++ z) at at_is ∙ joined) ∙ over_part a s (f ++ c ++ (n ++ m ++ z)) v four mark same ∙ back)

-- the size of the whole stands before what comes behind the first bytes
comes_early : (a s f : List ℕ) (first at : ℕ) → length (a ++ s ++ f) ≡ first → first ≤ at → length a + length s ≤ at
comes_early a s f first at long behind = omega (arith, length-append (a ++ s) f, length-append a s, long, behind)

-- heads are split: the bytes before and behind the size of the whole, this size by where the data begin, and what closes the
-- pieces by where they end
pub record IsSplit (heads : Heads) (p : Parameters) (order : Order) (first : ℕ) (a f : List ℕ) (size closing : ℕ → List ℕ) : Type 0 where
  pub split : (pieces : List NewChunk) → heads.head p pieces ≡ (a ++ size (length (heads.head p pieces)) ++ f) ++ (chunks_bytes order pieces ++ closing (first + length (chunks_bytes order pieces)))
  pub first_is : (n : ℕ) → length (a ++ size n ++ f) ≡ first
  pub wide : (m n : ℕ) → length (size m) ≡ length (size n)

-- how a head is closed behind pieces that end at a place
pub record Closes (order : Order) (a : List ℕ) (size closing : ℕ → List ℕ) (end : ℕ) (close : Closing) : Type 0 where
  pub ordered : close.order ≡ order
  pub there : close.size_at ≡ length a
  pub closed : close.bytes.items ≡ closing end
  pub sized : close.size.items ≡ size (end + length close.bytes.items)

module _ (heads : Heads) (p : Parameters) (order : Order) (first : ℕ) (a f : List ℕ) (size closing : ℕ → List ℕ) (is : IsSplit heads p order first a f size closing) where
  pub head_length : (pieces : List NewChunk) → length (heads.head p pieces) ≡ first + length (chunks_bytes order pieces) + length (closing (first + length (chunks_bytes order pieces)))
  head_length pieces =
      let n : ℕ = length (heads.head p pieces) in
      let z : List ℕ = closing (first + length (chunks_bytes order pieces)) in
      ap length (is.split pieces) ∙ omega (arith, length-append (a ++ size n ++ f) (chunks_bytes order pieces ++ z), length-append (chunks_bytes order pieces) z, is.first_is n)

  split_at : (k : ℕ) (pieces : List NewChunk) → heads.head p pieces
      ≡ ((a ++ size (length (heads.head p pieces)) ++ f) ++ chunks_bytes order (take k pieces)) ++ (chunks_bytes order (drop k pieces) ++ closing (first + length (chunks_bytes order pieces)))
  split_at k pieces =
      let x : List ℕ = a ++ size (length (heads.head p pieces)) ++ f in
      let z : List ℕ = closing (first + length (chunks_bytes order pieces)) in
      let parts : chunks_bytes order pieces ≡ chunks_bytes order (take k pieces) ++ chunks_bytes order (drop k pieces) = ap (chunks_bytes order) (sym (take-append-drop k pieces)) ∙ chunks-joined order (take k pieces) (drop k pieces) in
      is.split pieces ∙ ap (λ (l : List ℕ). x ++ (l ++ z)) parts ∙ regrouped x (chunks_bytes order (take k pieces)) (chunks_bytes order (drop k pieces)) z
    where
      regrouped : (x c d z : List ℕ) → x ++ ((c ++ d) ++ z) ≡ (x ++ c) ++ (d ++ z)
      regrouped x c d z = simp append_assoc

  front_size : (n : ℕ) (xs : List NewChunk) → length ((a ++ size n ++ f) ++ chunks_bytes order xs) ≡ first + length (chunks_bytes order xs)
  front_size n xs = omega (arith, length-append (a ++ size n ++ f) (chunks_bytes order xs), is.first_is n)

  parts_bytes : (k : ℕ) (pieces : List NewChunk) → length (chunks_bytes order pieces) ≡ length (chunks_bytes order (take k pieces)) + length (chunks_bytes order (drop k pieces))
  parts_bytes k pieces = ap (λ (l : List NewChunk). length (chunks_bytes order l)) (sym (take-append-drop k pieces)) ∙ length-joined order (take k pieces) (drop k pieces)

  module _ (pieces : List NewChunk) (place : ℕ) (piece : NewChunk) (plan : Plan) (planned : IsPlan order first pieces place piece plan) (close : Closing) (closes : Closes order a size closing plan.end close) where
    abbrev new : List NewChunk
    new = with_piece pieces place piece

    closed_end : close.bytes.items ≡ closing (first + length (chunks_bytes order new))
    closed_end = closes.closed ∙ ap closing planned.ended

    pub new_size : plan.end + length close.bytes.items ≡ length (heads.head p new)
    new_size = omega (arith, planned.ended, ap length closed_end, head_length new)

    size_is : close.size.items ≡ size (length (heads.head p new))
    size_is = closes.sized ∙ ap size new_size

    pub head_changed : changed plan close piece (heads.head p pieces) ≡ heads.head p new
    unfolding chunks_bytes
    head_changed =
        let n : ℕ = length (heads.head p pieces) in
        let z : List ℕ = closing (first + length (chunks_bytes order pieces)) in
        let front : List ℕ = chunks_bytes order (take place pieces) in
        let back : List ℕ = chunks_bytes order (drop (place + 1) pieces) in
        ap (λ (o : Order). changed plan (record close { order = o }) piece (heads.head p pieces)) closes.ordered
        ∙ changed_parts a (size n) close.size.items f front (chunks_bytes order (drop place pieces) ++ z)
        ((a ++ size n ++ f) ++ chunks_bytes order (take (place + 1) pieces)) back z (chunk_bytes order piece) close.bytes.items (heads.head p pieces) close.size_at plan.at plan.from plan.count
        (split_at place pieces) closes.there (ap length size_is ∙ is.wide (length (heads.head p new)) n) (planned.at_head ∙ sym (front_size n (take place pieces))) (split_at (place + 1) pieces) (planned.from_behind ∙ sym (front_size n (take (place + 1) pieces))) planned.counted
        ∙ ap (λ (l : List ℕ). ((a ++ l ++ f) ++ front) ++ ((chunk_bytes order piece ++ back) ++ close.bytes.items)) size_is
        ∙ ap (λ (l : List ℕ). ((a ++ size (length (heads.head p new)) ++ f) ++ front) ++ ((chunk_bytes order piece ++ back) ++ l)) closed_end
        ∙ regrouped (a ++ size (length (heads.head p new)) ++ f) front (chunk_bytes order piece ++ back) (closing (first + length (chunks_bytes order new)))
        ∙ ap (λ (l : List ℕ). (a ++ size (length (heads.head p new)) ++ f) ++ (l ++ closing (first + length (chunks_bytes order new)))) (sym (chunks-joined order (take place pieces) (piece ∷ drop (place + 1) pieces)))
        ∙ sym (is.split new)
      where
        regrouped : (x c d z : List ℕ) → (x ++ c) ++ (d ++ z) ≡ x ++ ((c ++ d) ++ z)
        regrouped x c d z = simp append_assoc

    pub can_change : (disk : ℕ) → disk ≡ length (heads.head p pieces) → plan.end + length close.bytes.items < 16777216 → CanChange plan close piece disk
    can_change disk held few = record {
      at_there = omega (arith, held, head_length pieces, planned.at_head, parts_bytes place pieces);
      early = omega (arith, closes.there, ap length size_is, comes_early a (size (length (heads.head p new))) f first plan.at (is.first_is (length (heads.head p new))) (omega (arith, planned.at_head)));
      behind = omega (arith, held, head_length pieces, planned.from_behind, planned.counted, parts_bytes (place + 1) pieces);
      whole = omega (
        arith,
        planned.ended,
        planned.at_head,
        planned.counted,
        length-joined order (take place pieces) (piece ∷ drop (place + 1) pieces),
        length-chunks_bytes order piece (drop (place + 1) pieces),
        ap (λ (o : Order). length (chunk_bytes o piece)) closes.ordered,
      );
      few = few;
    }

    pub new_head : (h : Shape) (disk disk' : State) → heads.may p new → h ≡ heads.shape p new → ((b : List ℕ) → disk.contents ≡ Some b → b ≡ heads.head p pieces) → IsChanged plan close piece disk disk' → IsHeadIn heads disk' h p new
    new_head h disk disk' may shape held done = record {
      laid = record { may = may; shape = shape };
      size = done.size ∙ new_size;
      contents = told disk.contents disk'.contents (changed plan close piece) (heads.head p pieces) (heads.head p new) done.contents held head_changed;
    }
      where
        told : (old now : Option (List ℕ)) (change : List ℕ → List ℕ) (head head' : List ℕ) → now ≡ option_map change old → ((b : List ℕ) → old ≡ Some b → b ≡ head) → change head ≡ head' → (b : List ℕ) → now ≡ Some b → b ≡ head'
        told None now change head head' done held meant b is = absurd (let no = sym is ∙ done in cc)
        told (Some x) now change head head' done held meant b is =
            let same : b ≡ change x = (let both : Some b ≡ Some (change x) = sym is ∙ done in cc) in
            same ∙ ap change (held x refl) ∙ meant
