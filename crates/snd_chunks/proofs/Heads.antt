-- A head of 8 bytes, and the chunk that it is the head of.
use Rattle.std.proofs.Common.{◌≡◌, ℕ, ◌+◌, ◌<◌, ◌≤◌, List, length, take, drop, get_or, true, Some, refl, sym, ap, ◌∙◌, arith, add_assoc}
use Rattle.std.proofs.lemmas.Bool.{le-leb}
use Rattle.std.proofs.lemmas.List.{get_or-take, get_or-drop, length-drop, length-take, places, same_lists}
use Rattle.std.specs.Prelude.{nat_le}
use Rattle.snd_fields.proofs.Numbers.{number_same}
use Rattle.snd_fields.specs.Field.{number}
use Rattle.snd_fields.specs.declared.field.Order.{Order}
use Rattle.snd_chunks.specs.declared.chunk.Chunk.{Chunk}
use Rattle.snd_chunks.specs.Chunks.{chunk_at, padded_end}

pub agree_from : (n p : ℕ) (x b : List ℕ) → take n x ≡ take n (drop p b) → (i : ℕ) → i < n → get_or x i 0 ≡ get_or b (p + i) 0
agree_from n p x b same i lt = sym (get_or-take n x i 0 lt) ∙ ap (λ (l : List ℕ). get_or l i 0) same ∙ get_or-take n (drop p b) i 0 lt ∙ get_or-drop p b i 0

-- .. and so where the list is no longer than that
pub agree_whole : (n p : ℕ) (x b : List ℕ) → x ≡ take n (drop p b) → (i : ℕ) → i < n → get_or x i 0 ≡ get_or b (p + i) 0
agree_whole n p x b same i lt = ap (λ (l : List ℕ). get_or l i 0) same ∙ get_or-take n (drop p b) i 0 lt ∙ get_or-drop p b i 0

pub whole_length : (n p : ℕ) (x b : List ℕ) → x ≡ take n (drop p b) → p + n ≤ length b → length x ≡ n
whole_length n p x b same within = ap length same ∙ omega (arith, length-take n (drop p b), length-drop p b)

-- the front of a list that agrees with another from a place on
pub same_front : (k p : ℕ) (x b : List ℕ) → k ≤ length x → p + k ≤ length b → ((i : ℕ) → i < k → get_or x i 0 ≡ get_or b (p + i) 0) → take k x ≡ take k (drop p b)
same_front k p x b long within same = same_lists _ _ (grind (arith, places)) (λ i d lt. grind (arith, places, same))

pub same_number : (order : Order) (k n m p : ℕ) (x b : List ℕ) → m ≡ k + n → ((i : ℕ) → i < m → get_or x i 0 ≡ get_or b (p + i) 0) → number order x k n ≡ number order b (p + k) n
same_number order k n m p x b sum same = number_same order n k (p + k) x b (λ i q r lt qe re. rw (qe, re, add_assoc) (same (k + i) (omega arith)))

made : (chunk : Chunk) (id : List ℕ) (at len next : ℕ) → chunk.id.0 ≡ id → chunk.at ≡ at → chunk.len ≡ len → chunk.next ≡ next
    → chunk ≡ record { id = record { 0 = id }; at = at; len = len; next = next }
made chunk id at len next i a l n = rw (← i, ← a, ← l, ← n) refl

pub chunk_is : (order : Order) (b h : List ℕ) (p : ℕ) (chunk : Chunk) → length h ≡ 8 → p + 8 ≤ length b → ((i : ℕ) → i < 8 → get_or h i 0 ≡ get_or b (p + i) 0)
    → chunk.id.0 ≡ take 4 h → chunk.len ≡ number order h 4 4 → chunk.at ≡ p + 8 → chunk.next ≡ padded_end chunk.at chunk.len → Some chunk ≡ chunk_at order b p
chunk_is order b h p chunk long within same id len at next =
    let number_is : chunk.len ≡ number order b (p + 4) 4 = len ∙ same_number order 4 4 8 p h b refl same in
    let id_is : chunk.id.0 ≡ take 4 (drop p b) = id ∙ same_front 4 p h b (omega arith) (omega arith) (λ i lt. same i (omega arith)) in
    let fields : padded_end chunk.at chunk.len ≡ padded_end (p + 8) (number order b (p + 4) 4) = rw (at, number_is) refl in
    let test : nat_le (p + 8) (length b) ≡ true = le-leb (p + 8) (length b) within in
    rw test (ap (λ (c : Chunk). Some c) (made chunk (take 4 (drop p b)) (p + 8) (number order b (p + 4) 4) (padded_end (p + 8) (number order b (p + 4) 4)) id_is at number_is (next ∙ fields)))
