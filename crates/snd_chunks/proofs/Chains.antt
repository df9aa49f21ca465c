-- Walks up to the sound as chains of chunks, each of which begins behind the one before it.
use Rattle.std.proofs.Common.{◌≡◌, ◌⊎◌, ℕ, zero, suc, ◌+◌, ◌<◌, ◌≤◌, List, [], ◌∷◌, Bool, true, false, All, Option, None, Some, length, take, drop, get_or, refl, sym, ap, ◌∙◌, inl, inr, arith}
use Rattle.std.proofs.lemmas.Bool.{cases_Bool, le-leb, leb-true, lt-leb}
use Rattle.std.proofs.lemmas.List.{places, same_lists}
use Rattle.std.proofs.lemmas.List.Elements.{All-cons, All-head, All-nil, All-tail, All-weaker}
use Rattle.std.specs.List.{find}
use Rattle.std.specs.Prelude.{nat_le}
use Rattle.std.specs.Str.{bytes_eq}
use Rattle.snd_fields.proofs.Numbers.{number_same}
use Rattle.snd_fields.specs.Field.{number}
use Rattle.snd_fields.specs.declared.field.Order.{Order}
use Rattle.snd_chunks.specs.declared.chunk.Chunk.{Chunk}
use Rattle.snd_chunks.specs.declared.front.Ending.TheVariants.{AtSound}
use Rattle.snd_chunks.specs.declared.front.Front.{Front}
use Rattle.snd_chunks.specs.Chunks.{behind, chunk_at, front, front_from, padded_end, tail, tail_from}

-- the chunk at a place is not the sound's, and ends by the end
pub record IsStep (chunk_of : ℕ → Option Chunk) (id : List ℕ) (end place : ℕ) (chunk : Chunk) : Type 0 where
  pub at : chunk_of place ≡ Some chunk
  pub other : bytes_eq chunk.id.0 id ≡ false
  pub ends : nat_le (chunk.at + chunk.len) end ≡ true

-- chunks from one place up to another
abbrev pub IsChain : (ℕ → Option Chunk) → List ℕ → ℕ → ℕ → List Chunk → ℕ → Type 0
IsChain chunk_of id end place [] last = place ≡ last
IsChain chunk_of id end place (chunk ∷ chunks) last = IsStep chunk_of id end place chunk × IsChain chunk_of id end chunk.next chunks last

-- a chain of fewer than n chunks to the sound
pub record Reaches (chunk_of : ℕ → Option Chunk) (id : List ℕ) (end n place : ℕ) (chunks : List Chunk) (sound : Chunk) : Type 0 where
  pub last : ℕ
  pub chain : IsChain chunk_of id end place chunks last
  pub at : chunk_of last ≡ Some sound
  pub is : bytes_eq sound.id.0 id ≡ true
  pub few : length chunks < n

module _ (chunk_of : ℕ → Option Chunk) (id : List ℕ) (end : ℕ) where
  -- what the walk saw before the sound is a chain
  pub reaches : (n place : ℕ) (seen : Front) (sound : Chunk) → front chunk_of id end n place ≡ seen → seen.ending ≡ AtSound sound → Reaches chunk_of id end n place seen.chunks sound
  unfolding front
  reaches zero place seen sound is ending = absurd (let e = ap (λ (f : Front). f.ending) is ∙ ending in cc)
  reaches (suc n) place seen sound is ending = one (λ p f. reaches n p f sound) (chunk_of place) refl is
    where
      one : ((p : ℕ) (f : Front) → front chunk_of id end n p ≡ f → f.ending ≡ AtSound sound → Reaches chunk_of id end n p f.chunks sound)
          → (chunk : Option Chunk) → chunk_of place ≡ chunk → front_from id end chunk (front chunk_of id end n) ≡ seen → Reaches chunk_of id end (suc n) place seen.chunks sound
      one again None at walked = absurd (let e = ap (λ (f : Front). f.ending) walked ∙ ending in cc)
      one again (Some chunk) at walked = elim (cases_Bool (bytes_eq chunk.id.0 id)) [
        | inl same ↦
            let seen_is : record { chunks = []; ending = AtSound chunk } ≡ seen = rw same at walked in
            let chunk_is : chunk ≡ sound = let e = ap (λ (f : Front). f.ending) seen_is ∙ ending in cc in
            let none : seen.chunks ≡ [] = sym (ap (λ (f : Front). f.chunks) seen_is) in
            rw none (record { last = place; chain = refl; at = at ∙ ap (λ (c : Chunk). Some c) chunk_is; is = rw chunk_is at same; few = omega arith })
        | inr other ↦ elim (cases_Bool (nat_le (chunk.at + chunk.len) end)) [
          | inl ends ↦
              let seen_is : behind chunk (front chunk_of id end n chunk.next) ≡ seen = rw (other, ends) at walked in
              let chunks_are : seen.chunks ≡ chunk ∷ (front chunk_of id end n chunk.next).chunks = sym (ap (λ (f : Front). f.chunks) seen_is) in
              let ending_is : (front chunk_of id end n chunk.next).ending ≡ AtSound sound = ap (λ (f : Front). f.ending) seen_is ∙ ending in
              let rest : Reaches chunk_of id end n chunk.next (front chunk_of id end n chunk.next).chunks sound = again chunk.next (front chunk_of id end n chunk.next) refl ending_is in
              rw chunks_are (record { last = rest.last; chain = (record { at = at; other = other; ends = ends }, rest.chain); at = rest.at; is = rest.is; few = omega (arith, rest.few) })
          | inr runs ↦
              absurd (let cut = rw (other, runs) at walked in let e = ap (λ (f : Front). f.ending) cut ∙ ending in cc)
        ]
      ]

  -- and a chain is what the walk sees before the sound
  pub walks : (n place : ℕ) (chunks : List Chunk) (last : ℕ) (sound : Chunk) → IsChain chunk_of id end place chunks last → chunk_of last ≡ Some sound → bytes_eq sound.id.0 id ≡ true → length chunks < n
      → front chunk_of id end n place ≡ record { chunks = chunks; ending = AtSound sound }
  unfolding front
  walks zero place chunks last sound chain at is few = absurd (omega arith)
  walks (suc n) place [] last sound chain at is few = rw (chain, at, is) refl
  walks (suc n) place (chunk ∷ chunks) last sound chain at is few =
      let rest : front chunk_of id end n chunk.next ≡ record { chunks = chunks; ending = AtSound sound } = walks n chunk.next chunks last sound chain.1 at is (omega arith) in
      rw (chain.0.at, chain.0.other, chain.0.ends) (ap (behind chunk) rest)

-- what a head at a place says of its chunk
pub record IsHead (order : Order) (b : List ℕ) (place : ℕ) (chunk : Chunk) : Type 0 where
  pub within : place + 8 ≤ length b
  pub at : chunk.at ≡ place + 8
  pub id : chunk.id.0 ≡ take 4 (drop place b)
  pub len : chunk.len ≡ number order b (place + 4) 4
  pub next : chunk.next ≡ padded_end chunk.at chunk.len

-- the chunk that a head makes
abbrev made_at : Order → List ℕ → ℕ → Chunk
made_at order b p = record { id = record { 0 = take 4 (drop p b) }; at = p + 8; len = number order b (p + 4) 4; next = padded_end (p + 8) (number order b (p + 4) 4) }

pub is_head : (order : Order) (b : List ℕ) (p : ℕ) (chunk : Chunk) → chunk_at order b p ≡ Some chunk → IsHead order b p chunk
is_head order b p chunk is = elim (cases_Bool (nat_le (p + 8) (length b))) [
  | inl whole ↦
      let chunk_is : made_at order b p ≡ chunk = let h = rw whole at is in cc in
      record {
        within = leb-true (p + 8) (length b) whole;
        at = sym (ap (λ (c : Chunk). c.at) chunk_is);
        id = sym (ap (λ (c : Chunk). c.id.0) chunk_is);
        len = sym (ap (λ (c : Chunk). c.len) chunk_is);
        next = rw (← chunk_is) refl;
      }
  | inr cut ↦ absurd (let h = rw cut at is in cc)
]

-- the same bytes from a place on
pub same_part : (k p : ℕ) (x y : List ℕ) → p + k ≤ length x → p + k ≤ length y → ((i : ℕ) → p ≤ i → i < p + k → get_or x i 0 ≡ get_or y i 0) → take k (drop p x) ≡ take k (drop p y)
same_part k p x y in_x in_y same = same_lists _ _ (grind (arith, places)) (λ i d lt. grind (arith, places, same))

pub same_number_at : (order : Order) (k at : ℕ) (x y : List ℕ) → ((i : ℕ) → at ≤ i → i < at + k → get_or x i 0 ≡ get_or y i 0) → number order x at k ≡ number order y at k
same_number_at order k at x y same = number_same order k at at x y (λ i p q lt pe qe. rw (pe, qe) (same (at + i) (omega arith) (omega arith)))

-- two files have the same 8 bytes before the body of a chunk
abbrev pub SameHead : List ℕ → List ℕ → Chunk → Type 0
SameHead x y chunk = (i : ℕ) → chunk.at ≤ i + 8 → i < chunk.at → get_or x i 0 ≡ get_or y i 0

pub same_chunk : (order : Order) (x y : List ℕ) (p : ℕ) (chunk : Chunk) → chunk_at order y p ≡ Some chunk → p + 8 ≤ length x → SameHead x y chunk → chunk_at order x p ≡ Some chunk
same_chunk order x y p chunk is within same =
    let head : IsHead order y p chunk = is_head order y p chunk is in
    let number_is : number order x (p + 4) 4 ≡ number order y (p + 4) 4 = same_number_at order 4 (p + 4) x y (λ i from to. same i (omega (arith, head.at)) (omega (arith, head.at))) in
    let id_is : take 4 (drop p x) ≡ take 4 (drop p y) = same_part 4 p x y (omega arith) (omega (arith, head.within)) (λ i from to. same i (omega (arith, head.at)) (omega (arith, head.at))) in
    let in_x : nat_le (p + 8) (length x) ≡ true = le-leb (p + 8) (length x) within in
    let in_y : nat_le (p + 8) (length y) ≡ true = le-leb (p + 8) (length y) head.within in
    let made_is : Some (made_at order y p) ≡ Some chunk = rw in_y at is in
    rw (in_x, id_is, number_is) made_is

-- a chunk between two places
pub record IsBetween (first last : ℕ) (chunk : Chunk) : Type 0 where
  pub after : first + 8 ≤ chunk.at
  pub before : chunk.at + chunk.len ≤ last

-- a chunk is another, or lies before it or behind it, with a head between the bodies
abbrev pub IsApart : Chunk → Chunk → Type 0
IsApart other chunk = (chunk ≡ other) ⊎ ((chunk.at + chunk.len + 8 ≤ other.at) ⊎ (other.at + other.len + 8 ≤ chunk.at))

-- what is found has what was looked for, and what all have
pub find_has : (test : Chunk → Bool) (P : Chunk → Type 0) (chunks : List Chunk) (x : Chunk) → All P chunks → find test chunks ≡ Some x → P x × (test x ≡ true)
find_has test P [] x all found = absurd (cc)
find_has test P (c ∷ chunks) x all found = elim (cases_Bool (test c)) [
  | inl is ↦
      let same : c ≡ x = let h = rw is at found in cc in
      rw (← same) (All-head P c chunks all, is)
  | inr other ↦ find_has test P chunks x (All-tail P c chunks all) (rw other at found)
]

module _ (order : Order) (b id : List ℕ) (end : ℕ) where
  pub in_order : (p q : ℕ) (chunks : List Chunk) → IsChain (chunk_at order b) id end p chunks q → (p ≤ q) × All (IsBetween p q) chunks
  in_order p q [] chain = (omega (arith, chain), All-nil (IsBetween p q))
  in_order p q (chunk ∷ chunks) chain =
      let head : IsHead order b p chunk = is_head order b p chunk chain.0.at in
      let rest : (chunk.next ≤ q) × All (IsBetween chunk.next q) chunks = in_order chunk.next q chunks chain.1 in (
        omega (arith, head.at, head.next, rest.0),
        All-cons (IsBetween p q) chunk chunks (record { after = omega (arith, head.at); before = omega (arith, head.next, rest.0) })
            (All-weaker (IsBetween chunk.next q) (IsBetween p q) (λ c is. record { after = omega (arith, is.after, head.at, head.next); before = is.before }) chunks rest.1),
      )

  pub apart : (p q : ℕ) (chunks : List Chunk) (test : Chunk → Bool) (found : Chunk) → IsChain (chunk_at order b) id end p chunks q → find test chunks ≡ Some found → All (IsApart found) chunks
  apart p q [] test found chain is = absurd (cc)
  apart p q (chunk ∷ chunks) test found chain is =
      let head : IsHead order b p chunk = is_head order b p chunk chain.0.at in
      let rest : (chunk.next ≤ q) × All (IsBetween chunk.next q) chunks = in_order chunk.next q chunks chain.1 in
      elim (cases_Bool (test chunk)) [
        | inl here ↦
            let same : chunk ≡ found = let h = rw here at is in cc in
            rw (← same) (All-cons (IsApart chunk) chunk chunks (inl refl)
            (All-weaker (IsBetween chunk.next q) (IsApart chunk) (λ c between. inr (inr (omega (arith, between.after, head.next)))) chunks rest.1))
        | inr later ↦
            let found_later : find test chunks ≡ Some found = rw later at is in
            let between : IsBetween chunk.next q found = (find_has test (IsBetween chunk.next q) chunks found rest.1 found_later).0 in
            All-cons (IsApart found) chunk chunks (inr (inl (omega (arith, between.after, head.next)))) (apart chunk.next q chunks test found chain.1 found_later)
      ]

-- each chunk of a chain says where the next one begins
abbrev pub SaysNext : Chunk → Type 0
SaysNext chunk = chunk.next ≡ padded_end chunk.at chunk.len

pub say_next : (order : Order) (b id : List ℕ) (end p q : ℕ) (chunks : List Chunk) → IsChain (chunk_at order b) id end p chunks q → All SaysNext chunks
say_next order b id end p q [] chain = All-nil SaysNext
say_next order b id end p q (chunk ∷ chunks) chain =
    All-cons SaysNext chunk chunks (is_head order b p chunk chain.0.at).next (say_next order b id end chunk.next q chunks chain.1)

-- a chain in one file is one in another with the same heads
pub same_chain : (order : Order) (x y id : List ℕ) (p q : ℕ) (chunks : List Chunk) → IsChain (chunk_at order y) id (length y) p chunks q → q ≤ length x → All (SameHead x y) chunks
    → IsChain (chunk_at order x) id (length x) p chunks q
same_chain order x y id p q [] chain within same = chain
same_chain order x y id p q (chunk ∷ chunks) chain within same =
    let head : IsHead order y p chunk = is_head order y p chunk chain.0.at in
    let rest = in_order order y id (length y) chunk.next q chunks chain.1 in (
      record {
        at = same_chunk order x y p chunk chain.0.at (omega (arith, head.at, head.next, rest.0)) (All-head (SameHead x y) chunk chunks same);
        other = chain.0.other;
        ends = le-leb (chunk.at + chunk.len) (length x) (omega (arith, head.next, rest.0));
      },
      same_chain order x y id chunk.next q chunks chain.1 within (All-tail (SameHead x y) chunk chunks same),
    )

-- behind the end there is no chunk
pub no_tail : (order : Order) (b : List ℕ) (end n p : ℕ) → end ≤ p → tail (chunk_at order b) end n p ≡ []
unfolding tail
no_tail order b end zero p behind = refl
no_tail order b end (suc n) p behind = one (chunk_at order b p) (tail (chunk_at order b) end n) (λ chunk is. (is_head order b p chunk is).at)
  where
    one : (chunk : Option Chunk) (rest : ℕ → List Chunk) → ((c : Chunk) → chunk ≡ Some c → c.at ≡ p + 8) → tail_from end chunk rest ≡ []
    one None rest at = refl
    one (Some chunk) rest at =
        let past : nat_le (chunk.at + chunk.len) end ≡ false = lt-leb (chunk.at + chunk.len) end (omega (arith, at chunk refl)) in
        rw past refl

-- where a chunk stands in one file, one stands in another with the same identifier
pub record StandsIn (order : Order) (x : List ℕ) (place : ℕ) (other : Chunk) : Type 0 where
  pub chunk : Chunk
  pub is : chunk_at order x place ≡ Some chunk
  pub at : chunk.at ≡ other.at
  pub id : chunk.id.0 ≡ other.id.0

pub stands_in : (order : Order) (x y : List ℕ) (p : ℕ) (other : Chunk) → chunk_at order y p ≡ Some other → p + 8 ≤ length x → ((i : ℕ) → p ≤ i → i < p + 4 → get_or x i 0 ≡ get_or y i 0) → StandsIn order x p other
stands_in order x y p other is within same =
    let head : IsHead order y p other = is_head order y p other is in
    let in_x : nat_le (p + 8) (length x) ≡ true = le-leb (p + 8) (length x) within in
    record {
      chunk = made_at order x p;
      is = rw in_x refl;
      at = sym head.at;
      id = same_part 4 p x y (omega arith) (omega (arith, head.within)) same ∙ sym head.id;
    }
