-- A head of 24 bytes, and the chunk that it is the head of.
use Rattle.std.proofs.Common.{◌≡◌, ℕ, ◌+◌, ◌<◌, ◌≤◌, List, true, false, Option, None, Some, length, take, drop, refl, sym, ap, ◌∙◌, arith}
use Rattle.std.proofs.lemmas.Bool.{le-leb, lt-leb}
use Rattle.std.specs.Prelude.{nat_le, if◌then◌else◌}
use Rattle.snd_chunks.proofs.Public.{agree_whole, same_front, same_number, whole_length}
use Rattle.snd_chunks.specs.declared.chunk.Chunk.{Chunk}
use Rattle.snd_fields.specs.Field.{number}
use Rattle.snd_fields.specs.declared.field.Order.TheVariants.{Little}
use Rattle.snd_chunks.specs.Parts.{reached}
use Rattle.snd_w64.specs.Layout.{chunk_at, chunk_with, is_long, letters, letters_at, size_at}

-- the chunk with these letters and this size, where there is one
abbrev pub made_of : List ℕ → ℕ → ℕ → Option Chunk
made_of id p size = if is_long id size then Some (chunk_with id p size) else None

pub in_reach : (b : List ℕ) (p : ℕ) → p + 24 ≤ reached (length b) → chunk_at b p ≡ made_of (letters_at b p) p (size_at b p)
in_reach b p within =
    let there : nat_le (p + 24) (reached (length b)) ≡ true = le-leb (p + 24) (reached (length b)) within in
    rw there refl

pub past_reach : (b : List ℕ) (p : ℕ) → reached (length b) < p + 24 → chunk_at b p ≡ None
past_reach b p past =
    let there : nat_le (p + 24) (reached (length b)) ≡ false = lt-leb (p + 24) (reached (length b)) past in
    rw there refl

pub chunk_is : (b h : List ℕ) (p : ℕ) (chunk : Option Chunk) → h ≡ take 24 (drop p b) → p + 24 ≤ length b → p + 24 ≤ reached (length b) → chunk ≡ made_of (letters (take 16 h)) p (number Little h 16 8) → chunk ≡ chunk_at b p
chunk_is b h p chunk is within reach made =
    let same = agree_whole 24 p h b is in
    let long : length h ≡ 24 = whole_length 24 p h b is within in
    let id : take 16 h ≡ take 16 (drop p b) = same_front 16 p h b (omega arith) (omega arith) (λ i lt. same i (omega arith)) in
    let size : number Little h 16 8 ≡ size_at b p = same_number Little 16 8 24 p h b refl same in
    made ∙ ap (λ (l : List ℕ). made_of (letters l) p (number Little h 16 8)) id ∙ ap (made_of (letters_at b p) p) size ∙ sym (in_reach b p reach)
