-- What is written as chunks is walked as these chunks.
use Rattle.std.proofs.Common.{◌≡◌, ℕ, ◌+◌, ◌%◌, ◌<◌, ◌≤◌, ◌^◌, List, [], ◌∷◌, ◌++◌, All, Some, true, false, length, take, drop, get_or, refl, sym, ap, ◌∙◌, arith, length-append}
use Rattle.std.proofs.lemmas.Bool.{le-leb}
use Rattle.std.proofs.lemmas.List.{get_or-append-add, get_or_append_left, length-replicate, places, same_lists}
use Rattle.std.proofs.lemmas.List.Elements.{All-head, All-tail}
use Rattle.std.specs.Prelude.{nat_le}
use Rattle.std.specs.Str.{bytes_eq}
use Rattle.snd_disk.specs.Runs.{HasAt}
use Rattle.snd_fields.proofs.Numbers.{length-bytes_of, number_of_bytes, number_same}
use Rattle.snd_fields.specs.Field.{bytes_of, number}
use Rattle.snd_fields.specs.declared.field.Order.{Order}
use Rattle.snd_chunks.specs.Chunks.{chunk_at, padded_end}
use Rattle.snd_chunks.specs.Written.{NewChunk, all_placed, chunk_bytes, chunks_bytes, head_bytes, pad, placed}
use Rattle.snd_chunks.proofs.Chains.{IsChain}

-- a file that has joined bytes at a place has each of them
pub has_left : (b : List ℕ) (p : ℕ) (x y : List ℕ) → HasAt b p (x ++ y) → HasAt b p x
has_left b p x y has = λ j lt. has j (omega (arith, length-append x y)) ∙ get_or_append_left x y 0 j lt

pub has_right : (b : List ℕ) (p q : ℕ) (x y : List ℕ) → q ≡ p + length x → HasAt b p (x ++ y) → HasAt b q y
has_right b p q x y at has = λ j lt.
    let place : q + j ≡ p + (length x + j) = omega (arith, at) in
    ap (λ i. get_or b i 0) place ∙ has (length x + j) (omega (arith, length-append x y)) ∙ get_or-append-add x y j 0

-- and so a number, and a part
pub has_number : (order : Order) (b : List ℕ) (p n : ℕ) → HasAt b p (bytes_of order 4 n) → n < 2 ^ 32 → number order b p 4 ≡ n
has_number order b p n has few =
    number_same order 4 p 0 b (bytes_of order 4 n) (λ i q r lt qe re.
    let same : i ≡ r = omega (arith, re) in
    ap (λ k. get_or b k 0) qe ∙ has i (omega (arith, length-bytes_of order 4 n)) ∙ ap (λ k. get_or (bytes_of order 4 n) k 0) same)
    ∙ number_of_bytes order 4 n few

pub has_part : (k : ℕ) (b : List ℕ) (p : ℕ) (x : List ℕ) → k ≡ length x → p + k ≤ length b → HasAt b p x → take k (drop p b) ≡ x
has_part k b p x long within has = same_lists _ _ (grind (arith, places)) (λ i d lt. grind (arith, places, has))

pub length-head_bytes : (order : Order) (id : List ℕ) (len : ℕ) → length id ≡ 4 → length (head_bytes order id len) ≡ 8
unfolding head_bytes
length-head_bytes order id len four = length-append id (bytes_of order 4 len) ∙ omega (arith, four, length-bytes_of order 4 len)

-- a head that stands at a place is that of a chunk there
pub head_written : (order : Order) (b id : List ℕ) (p n : ℕ) → length id ≡ 4 → n < 2 ^ 32 → p + 8 ≤ length b → HasAt b p (head_bytes order id n) → chunk_at order b p ≡ Some (placed id p n)
unfolding head_bytes
head_written order b id p n four few within has =
    let in_file : nat_le (p + 8) (length b) ≡ true = le-leb (p + 8) (length b) within in
    let id_is : take 4 (drop p b) ≡ id = has_part 4 b p id (sym four) (omega arith) (has_left b p id (bytes_of order 4 n) has) in
    let number_is : number order b (p + 4) 4 ≡ n = has_number order b (p + 4) n (has_right b p (p + 4) id (bytes_of order 4 n) (omega (arith, four)) has) few in
    rw (in_file, id_is, number_is) refl

-- a chunk that may be written before the sound's
pub record MayPrecede (sound : List ℕ) (chunk : NewChunk) : Type 0 where
  pub four : length chunk.id ≡ 4
  pub few : length chunk.body < 2 ^ 32
  pub other : bytes_eq chunk.id sound ≡ false

pub length-chunk_bytes : (order : Order) (chunk : NewChunk) (p : ℕ) → length chunk.id ≡ 4 → p + length (chunk_bytes order chunk) ≡ padded_end (p + 8) (length chunk.body)
unfolding chunk_bytes
length-chunk_bytes order chunk p four =
    let head = length-head_bytes order chunk.id (length chunk.body) four in
    omega (
      arith,
      head,
      length-append (head_bytes order chunk.id (length chunk.body) ++ chunk.body) (pad (length chunk.body)),
      length-append (head_bytes order chunk.id (length chunk.body)) chunk.body,
      length-replicate {A = ℕ} (length chunk.body % 2) 0,
    )

pub has_head : (order : Order) (b : List ℕ) (p : ℕ) (chunk : NewChunk) → HasAt b p (chunk_bytes order chunk) → HasAt b p (head_bytes order chunk.id (length chunk.body))
unfolding chunk_bytes
has_head order b p chunk has =
    has_left b p (head_bytes order chunk.id (length chunk.body)) chunk.body (has_left b p (head_bytes order chunk.id (length chunk.body) ++ chunk.body) (pad (length chunk.body)) has)

-- the body of a chunk that stands at a place
pub has_body : (order : Order) (b : List ℕ) (p : ℕ) (chunk : NewChunk) → length chunk.id ≡ 4 → HasAt b p (chunk_bytes order chunk) → HasAt b (p + 8) chunk.body
unfolding chunk_bytes
has_body order b p chunk four has =
    has_right b p (p + 8) (head_bytes order chunk.id (length chunk.body)) chunk.body (omega (arith, length-head_bytes order chunk.id (length chunk.body) four))
    (has_left b p (head_bytes order chunk.id (length chunk.body) ++ chunk.body) (pad (length chunk.body)) has)

pub has_first : (order : Order) (b : List ℕ) (p : ℕ) (chunk : NewChunk) (chunks : List NewChunk) → HasAt b p (chunks_bytes order (chunk ∷ chunks)) → HasAt b p (chunk_bytes order chunk)
unfolding chunks_bytes
has_first order b p chunk chunks has = has_left b p (chunk_bytes order chunk) (chunks_bytes order chunks) has

pub has_others : (order : Order) (b : List ℕ) (p q : ℕ) (chunk : NewChunk) (chunks : List NewChunk) → q ≡ p + length (chunk_bytes order chunk) → HasAt b p (chunks_bytes order (chunk ∷ chunks)) → HasAt b q (chunks_bytes order chunks)
unfolding chunks_bytes
has_others order b p q chunk chunks at has = has_right b p q (chunk_bytes order chunk) (chunks_bytes order chunks) at has

pub length-chunks_bytes : (order : Order) (chunk : NewChunk) (chunks : List NewChunk) → length (chunks_bytes order (chunk ∷ chunks)) ≡ length (chunk_bytes order chunk) + length (chunks_bytes order chunks)
unfolding chunks_bytes
length-chunks_bytes order chunk chunks = length-append (chunk_bytes order chunk) (chunks_bytes order chunks)

-- chunks that stand from a place on are a chain of these chunks
pub chain_written : (order : Order) (b sound : List ℕ) (p q : ℕ) (chunks : List NewChunk) → All (MayPrecede sound) chunks → q ≡ p + length (chunks_bytes order chunks) → q ≤ length b → HasAt b p (chunks_bytes order chunks)
    → IsChain (chunk_at order b) sound (length b) p (all_placed p chunks) q
unfolding all_placed chunks_bytes
chain_written order b sound p q [] may at within has = omega (arith, at)
chain_written order b sound p q (chunk ∷ chunks) may at within has =
    let good : MayPrecede sound chunk = All-head (MayPrecede sound) chunk chunks may in
    let next : p + length (chunk_bytes order chunk) ≡ padded_end (p + 8) (length chunk.body) = length-chunk_bytes order chunk p good.four in
    let all : length (chunks_bytes order (chunk ∷ chunks)) ≡ length (chunk_bytes order chunk) + length (chunks_bytes order chunks) = length-chunks_bytes order chunk chunks in (
      record {
        at = head_written order b chunk.id p (length chunk.body) good.four good.few (omega (arith, at, all, next)) (has_head order b p chunk (has_first order b p chunk chunks has));
        other = good.other;
        ends = le-leb (p + 8 + length chunk.body) (length b) (omega (arith, at, all, next));
      },
      chain_written order b sound (padded_end (p + 8) (length chunk.body)) q chunks (All-tail (MayPrecede sound) chunk chunks may) (omega (arith, at, all, next)) within
          (has_others order b p (padded_end (p + 8) (length chunk.body)) chunk chunks (sym next) has),
    )

pub length-all_placed : (p : ℕ) (chunks : List NewChunk) → length (all_placed p chunks) ≡ length chunks
unfolding all_placed
length-all_placed p [] = refl
length-all_placed p (chunk ∷ chunks) = omega (arith, length-all_placed (padded_end (p + 8) (length chunk.body)) chunks)
