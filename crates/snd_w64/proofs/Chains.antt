-- The chunks before the data as a chain, each of which begins at the next multiple of 8 behind the one before it.
use Rattle.std.proofs.Common.{◌≡◌, ◌⊎◌, ℕ, ◌+◌, ◌-◌, ◌*◌, ◌/◌, ◌<◌, ◌≤◌, ◌^◌, List, [], ◌∷◌, Bool, true, false, ◌&&◌, ◌||◌, All, Some, length, get_or, min, refl, sym, ap, ◌∙◌, inl, inr, arith}
use Rattle.std.proofs.lemmas.Bool.{and_parts, cases_Bool, le-leb, leb-true}
use Rattle.std.proofs.lemmas.List.Elements.{All-cons, All-head, All-nil, All-tail, All-weaker}
use Rattle.std.specs.List.{find}
use Rattle.std.specs.Prelude.{codes, nat_le}
use Rattle.std.specs.Str.{bytes_eq}
use Rattle.snd_chunks.proofs.Public.{find_has, IsChain, same_number_at, same_part}
use Rattle.snd_chunks.specs.declared.chunk.Chunk.{Chunk}
use Rattle.snd_fields.specs.declared.field.Order.TheVariants.{Little}
use Rattle.snd_chunks.specs.Parts.{reached}
use Rattle.snd_w64.specs.Layout.{chunk_at, chunk_with, is_long, letters, letters_at, raised, size_at}
use Rattle.snd_w64.proofs.Heads.{in_reach, made_of}
use Rattle.snd_w64.proofs.Raising.{raised-least}

-- what a head at a place says of its chunk
pub record IsHead (b : List ℕ) (place : ℕ) (chunk : Chunk) : Type 0 where
  pub within : place + 24 ≤ reached (length b)
  pub long : is_long (letters_at b place) (size_at b place) ≡ true
  pub is : chunk ≡ chunk_with (letters_at b place) place (size_at b place)

pub is_head : (b : List ℕ) (p : ℕ) (chunk : Chunk) → chunk_at b p ≡ Some chunk → IsHead b p chunk
is_head b p chunk is = elim (cases_Bool (nat_le (p + 24) (reached (length b)) && is_long (letters_at b p) (size_at b p))) [
  | inl both ↦
      let parts = and_parts (nat_le (p + 24) (reached (length b))) (is_long (letters_at b p) (size_at b p)) both in
      record {
        within = leb-true (p + 24) (reached (length b)) parts.0;
        long = parts.1;
        is = let h = rw both at is in cc;
      }
  | inr cut ↦ absurd (let h = rw cut at is in cc)
]

pub head_at : (b : List ℕ) (p : ℕ) (chunk : Chunk) → IsHead b p chunk → chunk.at ≡ p + 24
head_at b p chunk head = ap (λ (c : Chunk). c.at) head.is

pub head_id : (b : List ℕ) (p : ℕ) (chunk : Chunk) → IsHead b p chunk → chunk.id.0 ≡ letters_at b p
head_id b p chunk head = ap (λ (c : Chunk). c.id.0) head.is

pub head_len : (b : List ℕ) (p : ℕ) (chunk : Chunk) → IsHead b p chunk → chunk.len ≡ min (2 ^ 63 - 1) (size_at b p - 24)
head_len b p chunk head = ap (λ (c : Chunk). c.len) head.is

pub head_next : (b : List ℕ) (p : ℕ) (chunk : Chunk) → IsHead b p chunk → chunk.next ≡ raised (chunk.at + chunk.len)
head_next b p chunk head = rw head.is refl

pub next_behind : (b : List ℕ) (p : ℕ) (chunk : Chunk) → IsHead b p chunk → chunk.at + chunk.len ≤ chunk.next
next_behind b p chunk head = omega (arith, head_next b p chunk head, raised-least (chunk.at + chunk.len))

-- two files have the same 24 bytes before the body of a chunk
abbrev pub SameHead : List ℕ → List ℕ → Chunk → Type 0
SameHead x y chunk = (i : ℕ) → chunk.at ≤ i + 24 → i < chunk.at → get_or x i 0 ≡ get_or y i 0

-- the identifier of a head
same_letters : (x y : List ℕ) (p : ℕ) → p + 24 ≤ length x → p + 24 ≤ length y → ((i : ℕ) → p ≤ i → i < p + 16 → get_or x i 0 ≡ get_or y i 0) → letters_at x p ≡ letters_at y p
same_letters x y p in_x in_y same = ap letters (same_part 16 p x y (omega arith) (omega arith) same)

pub same_chunk : (x y : List ℕ) (p : ℕ) (chunk : Chunk) → chunk_at y p ≡ Some chunk → p + 24 ≤ reached (length x) → SameHead x y chunk → chunk_at x p ≡ Some chunk
same_chunk x y p chunk is within same =
    let head : IsHead y p chunk = is_head y p chunk is in
    let at : chunk.at ≡ p + 24 = head_at y p chunk head in
    let id_is : letters_at x p ≡ letters_at y p = same_letters x y p (omega arith) (omega (arith, head.within)) (λ i from to. same i (omega (arith, at)) (omega (arith, at))) in
    let size_is : size_at x p ≡ size_at y p = same_number_at Little 8 (p + 16) x y (λ i from to. same i (omega (arith, at)) (omega (arith, at))) in
    in_reach x p within ∙ ap (λ (l : List ℕ). made_of l p (size_at x p)) id_is ∙ ap (made_of (letters_at y p) p) size_is ∙ sym (in_reach y p head.within) ∙ is

-- a chunk between two places
pub record IsBetween (first last : ℕ) (chunk : Chunk) : Type 0 where
  pub after : first + 24 ≤ chunk.at
  pub before : chunk.at + chunk.len ≤ last

-- a chunk is another, or lies before it or behind it, with a head between the bodies
abbrev pub IsApart : Chunk → Chunk → Type 0
IsApart other chunk = (chunk ≡ other) ⊎ ((chunk.at + chunk.len + 24 ≤ other.at) ⊎ (other.at + other.len + 24 ≤ chunk.at))

module _ (b id : List ℕ) (end : ℕ) where
  pub in_order : (p q : ℕ) (chunks : List Chunk) → IsChain (chunk_at b) id end p chunks q → (p ≤ q) × All (IsBetween p q) chunks
  in_order p q [] chain = (omega (arith, chain), All-nil (IsBetween p q))
  in_order p q (chunk ∷ chunks) chain =
      let head : IsHead b p chunk = is_head b p chunk chain.0.at in
      let at : chunk.at ≡ p + 24 = head_at b p chunk head in
      let next : chunk.at + chunk.len ≤ chunk.next = next_behind b p chunk head in
      let rest : (chunk.next ≤ q) × All (IsBetween chunk.next q) chunks = in_order chunk.next q chunks chain.1 in (
        omega (arith, at, next, rest.0),
        All-cons (IsBetween p q) chunk chunks (record { after = omega (arith, at); before = omega (arith, next, rest.0) })
            (All-weaker (IsBetween chunk.next q) (IsBetween p q) (λ c is. record { after = omega (arith, is.after, at, next); before = is.before }) chunks rest.1),
      )

  pub apart : (p q : ℕ) (chunks : List Chunk) (test : Chunk → Bool) (found : Chunk) → IsChain (chunk_at b) id end p chunks q → find test chunks ≡ Some found → All (IsApart found) chunks
  apart p q [] test found chain is = absurd (cc)
  apart p q (chunk ∷ chunks) test found chain is =
      let head : IsHead b p chunk = is_head b p chunk chain.0.at in
      let next : chunk.at + chunk.len ≤ chunk.next = next_behind b p chunk head in
      let rest : (chunk.next ≤ q) × All (IsBetween chunk.next q) chunks = in_order chunk.next q chunks chain.1 in
      elim (cases_Bool (test chunk)) [
        | inl here ↦
            let same : chunk ≡ found = let h = rw here at is in cc in
            rw (← same) (All-cons (IsApart chunk) chunk chunks (inl refl)
            (All-weaker (IsBetween chunk.next q) (IsApart chunk) (λ c between. inr (inr (omega (arith, between.after, next)))) chunks rest.1))
        | inr later ↦
            let found_later : find test chunks ≡ Some found = rw later at is in
            let between : IsBetween chunk.next q found = (find_has test (IsBetween chunk.next q) chunks found rest.1 found_later).0 in
            All-cons (IsApart found) chunk chunks (inr (inl (omega (arith, between.after, next)))) (apart chunk.next q chunks test found chain.1 found_later)
      ]

-- each chunk of a chain says where the next one begins, and its body begins at a multiple of 8
pub record SaysNext (chunk : Chunk) : Type 0 where
  pub next : chunk.next ≡ raised (chunk.at + chunk.len)
  pub eighths : ℕ
  pub at : chunk.at ≡ 8 * eighths

pub say_next : (b id : List ℕ) (end p n q : ℕ) (chunks : List Chunk) → p ≡ 8 * n → IsChain (chunk_at b) id end p chunks q → All SaysNext chunks
say_next b id end p n q [] even chain = All-nil SaysNext
say_next b id end p n q (chunk ∷ chunks) even chain =
    let head : IsHead b p chunk = is_head b p chunk chain.0.at in
    let next : chunk.next ≡ raised (chunk.at + chunk.len) = head_next b p chunk head in
    All-cons SaysNext chunk chunks (record { next = next; eighths = n + 3; at = omega (arith, head_at b p chunk head, even) })
    (say_next b id end chunk.next ((chunk.at + chunk.len + 7) / 8) q chunks (omega (arith, next)) chain.1)

-- a chain in one file is one in another with the same heads
pub same_chain : (x y id : List ℕ) (p q : ℕ) (chunks : List Chunk) → IsChain (chunk_at y) id (length y) p chunks q → q ≤ reached (length x) → All (SameHead x y) chunks
    → IsChain (chunk_at x) id (length x) p chunks q
same_chain x y id p q [] chain within same = chain
same_chain x y id p q (chunk ∷ chunks) chain within same =
    let head : IsHead y p chunk = is_head y p chunk chain.0.at in
    let at : chunk.at ≡ p + 24 = head_at y p chunk head in
    let next : chunk.at + chunk.len ≤ chunk.next = next_behind y p chunk head in
    let rest = in_order y id (length y) chunk.next q chunks chain.1 in (
      record {
        at = same_chunk x y p chunk chain.0.at (omega (arith, at, next, rest.0)) (All-head (SameHead x y) chunk chunks same);
        other = chain.0.other;
        ends = le-leb (chunk.at + chunk.len) (length x) (omega (arith, next, rest.0));
      },
      same_chain x y id chunk.next q chunks chain.1 within (All-tail (SameHead x y) chunk chunks same),
    )

-- where the data chunk stands in one file, one stands in another with the same identifier
pub record StandsIn (x : List ℕ) (place : ℕ) (other : Chunk) : Type 0 where
  pub chunk : Chunk
  pub is : chunk_at x place ≡ Some chunk
  pub at : chunk.at ≡ other.at
  pub id : chunk.id.0 ≡ other.id.0
  pub len : chunk.len ≡ min (2 ^ 63 - 1) (size_at x place - 24)

or_true : (a c : Bool) → c ≡ true → (a || c) ≡ true
or_true true c is = refl
or_true false c is = is

pub stands_in : (x y : List ℕ) (p : ℕ) (other : Chunk) → chunk_at y p ≡ Some other → bytes_eq other.id.0 (codes "data") ≡ true → p + 24 ≤ reached (length x) → ((i : ℕ) → p ≤ i → i < p + 16 → get_or x i 0 ≡ get_or y i 0) → StandsIn x p other
stands_in x y p other is sound within same =
    let head : IsHead y p other = is_head y p other is in
    let id_is : letters_at x p ≡ other.id.0 = same_letters x y p (omega arith) (omega (arith, head.within)) same ∙ sym (head_id y p other head) in
    let named : bytes_eq (letters_at x p) (codes "data") ≡ true = rw id_is sound in
    let long : is_long (letters_at x p) (size_at x p) ≡ true = or_true (nat_le 24 (size_at x p)) (bytes_eq (letters_at x p) (codes "data")) named in
    record {
      chunk = chunk_with (letters_at x p) p (size_at x p);
      is = in_reach x p within ∙ rw long refl;
      at = sym (head_at y p other head);
      id = id_is;
      len = refl;
    }
