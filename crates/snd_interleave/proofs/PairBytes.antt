-- Pairs of bytes: where they stand in a block, and the numbers that they are.
use Rattle.std.proofs.Common.{◌≡◌, ◌≢◌, ◌∙◌, ap, sym, refl, subst, inl, inr, ℕ, zero, suc, ◌+◌, ◌*◌, ◌/◌, ◌<◌, ◌≤◌, ℤ, pos, List, length, take, get_or, set, arith}
use Rattle.std.proofs.Math.Nat.{mul-le-mul_left}
use Rattle.std.proofs.lemmas.Bool.{cases_lt}
use Rattle.std.proofs.lemmas.Grind.{get_or-set_at}
use Rattle.std.proofs.lemmas.List.{get_or-set_other, length-set}
use Rattle.snd_fields.proofs.Numbers.{number_same}
use Rattle.snd_fields.specs.Field.{number}
use Rattle.snd_fields.specs.declared.field.Order.{Order}
use Rattle.snd_fields.specs.declared.field.Order.TheVariants.{Little, Big}
use Rattle.snd_pcm.proofs.RoundTrips.{samples_of_parts}
use Rattle.snd_pcm.proofs.Series.{get_or-samples, length-samples}
use Rattle.snd_pcm.specs.Pcm.{samples, value}
use Rattle.snd_pcm.specs.declared.linear.Linear.TheVariants.{S16}
use Rattle.snd_interleave.specs.Held.{HasPairs, KeepsPairs, SamePair, pairs_in}
use Rattle.snd_interleave.proofs.Frames.{frame_apart, in_frame, place_apart}

-- ---- where they stand

-- a pair of one of the frames of a block lies within it
pub pair_within : (n m i w : ℕ) → i < m / 2 → w < n → 2 * (i * n + w) + 1 < m * n
pair_within n m i w lt within =
    let inside = in_frame n (m / 2) i w lt within in
    let few : n * (2 * (m / 2)) ≤ n * m = mul-le-mul_left n (omega arith) in
    let turn : n * (2 * (m / 2)) ≡ 2 * (m / 2 * n) = omega arith in
    omega (arith, inside, few, turn)

-- a pair is put, and no other
module _ (block : List ℕ) (at a b : ℕ) where
  abbrev pub with_pair : List ℕ
  with_pair = set (set block (2 * at) a) (2 * at + 1) b

  pair_put : (pairs : List ℕ) (i : ℕ) → a ≡ get_or pairs (2 * i) 0 → b ≡ get_or pairs (2 * i + 1) 0 → 2 * at + 1 < length block → SamePair with_pair at pairs i
  pair_put pairs i first second within = (
    get_or-set_other (set block (2 * at) a) (2 * at + 1) (2 * at) b 0 (λ same. omega (arith, same)) ∙ get_or-set_at block (2 * at) (2 * at) a 0 refl (omega (arith, within)) ∙ first,
    get_or-set_at (set block (2 * at) a) (2 * at + 1) (2 * at + 1) b 0 refl (omega (arith, within, length-set block (2 * at) a)) ∙ second,
  )

  pair_stays : (k : ℕ) → k ≢ at → SamePair with_pair k block k
  pair_stays k other = (
    get_or-set_other (set block (2 * at) a) (2 * at + 1) (2 * k) b 0 (λ same. omega (arith, same)) ∙ get_or-set_other block (2 * at) (2 * k) a 0 (λ same. other (omega (arith, same))),
    get_or-set_other (set block (2 * at) a) (2 * at + 1) (2 * k + 1) b 0 (λ same. other (omega (arith, same))) ∙ get_or-set_other block (2 * at) (2 * k + 1) a 0 (λ same. omega (arith, same)),
  )

module _ (n w i : ℕ) (pairs block : List ℕ) (a b : ℕ) (within : w < n) where
  -- one pair more of a channel is put
  pub put_pair_more : length block ≡ length pairs * n → i < pairs_in pairs → a ≡ get_or pairs (2 * i) 0 → b ≡ get_or pairs (2 * i + 1) 0
      → ((j : ℕ) → j < i → SamePair block (j * n + w) pairs j) → (j : ℕ) → j < i + 1 → SamePair (with_pair block (i * n + w) a b) (j * n + w) pairs j
  put_pair_more size lt first second so_far j below = elim (cases_lt j i) [
    | inl before ↦
        let stays = pair_stays block (i * n + w) a b (j * n + w) (frame_apart n i w j w within within (inl before)) in
        let here = so_far j before in
        (stays.0 ∙ here.0, stays.1 ∙ here.1)
    | inr le ↦
        let here : i ≡ j = omega (arith, le, below) in
        subst (λ (k : ℕ). SamePair (with_pair block (i * n + w) a b) (k * n + w) pairs k) here
        (pair_put block (i * n + w) a b pairs i first second (omega (arith, pair_within n (length pairs) i w lt within, size)))
  ]

  pub other_pairs_more : (old : List ℕ) (count : ℕ) → KeepsPairs n w count old block → KeepsPairs n w count old (with_pair block (i * n + w) a b)
  other_pairs_more old count so_far j c below inside other =
      let stays = pair_stays block (i * n + w) a b (j * n + c) (place_apart n i w j c within inside other) in
      let here = so_far j c below inside other in
      (stays.0 ∙ here.0, stays.1 ∙ here.1)

-- ---- the numbers that they are

-- two zero bytes are zero
zero_code : (order : Order) (b : List ℕ) (at : ℕ) → get_or b at 0 ≡ 0 → get_or b (at + 1) 0 ≡ 0 → number order b at 2 ≡ 0
zero_code Little b at first second =
    let next : get_or b (suc at) 0 ≡ 0 = ap (λ (k : ℕ). get_or b k 0) (let e : suc at ≡ at + 1 = omega arith in e) ∙ second in
    omega (arith, first, next)
zero_code Big b at first second =
    let next : get_or b (suc at) 0 ≡ 0 = ap (λ (k : ℕ). get_or b k 0) (let e : suc at ≡ at + 1 = omega arith in e) ∙ second in
    omega (arith, first, next)

module _ (order : Order) where
  abbrev pub numbers : List ℕ → List ℤ
  numbers bytes = samples (S16 order) bytes

  pub count_of_pairs : (bytes : List ℕ) → length (numbers bytes) ≡ pairs_in bytes
  count_of_pairs bytes = length-samples (S16 order) bytes

  -- equal pairs are equal numbers
  pub same_pair : (a b : List ℕ) (i j : ℕ) → i < pairs_in a → j < pairs_in b → SamePair a i b j → get_or (numbers a) i (pos 0) ≡ get_or (numbers b) j (pos 0)
  same_pair a b i j lt lt' same =
      get_or-samples (S16 order) a i (pos 0) lt
      ∙ ap (value (S16 order)) (number_same order 2 (2 * i) (2 * j) a b each)
      ∙ sym (get_or-samples (S16 order) b j (pos 0) lt')
    where
      each : (k p q : ℕ) → k < 2 → p ≡ 2 * i + k → q ≡ 2 * j + k → get_or a p 0 ≡ get_or b q 0
      each zero p q below pe qe = let p' : p ≡ 2 * i = omega arith in let q' : q ≡ 2 * j = omega arith in rw (p', q') same.0
      each (suc zero) p q below pe qe = let p' : p ≡ 2 * i + 1 = omega arith in let q' : q ≡ 2 * j + 1 = omega arith in rw (p', q') same.1
      each (suc (suc k)) p q below pe qe = absurd (omega arith)

  pub zero_pair : (a : List ℕ) (i : ℕ) → get_or a (2 * i) 0 ≡ 0 → get_or a (2 * i + 1) 0 ≡ 0 → i < pairs_in a → get_or (numbers a) i (pos 0) ≡ pos 0
  zero_pair a i first second lt = get_or-samples (S16 order) a i (pos 0) lt ∙ ap (value (S16 order)) (zero_code order a (2 * i) first second)

  -- a channel of pairs is one of numbers, and so are those that stay
  module _ (n w : ℕ) (pairs block : List ℕ) (within : w < n) (size : length block ≡ length pairs * n) where
    in_block : (j c : ℕ) → j < pairs_in pairs → c < n → j * n + c < pairs_in block
    in_block j c lt inside = let fits = pair_within n (length pairs) j c lt inside in omega (arith, fits, size)

    pub has_channel : HasPairs n w pairs block → (j : ℕ) → j < pairs_in pairs → get_or (numbers block) (j * n + w) (pos 0) ≡ get_or (numbers pairs) j (pos 0)
    has_channel has j below = same_pair block pairs (j * n + w) j (in_block j w below within) below (has j below)

    pub keeps_channels : (old : List ℕ) → length old ≡ length block → KeepsPairs n w (pairs_in pairs) old block → (j c : ℕ) → j < pairs_in pairs → c < n → c ≢ w
        → get_or (numbers block) (j * n + c) (pos 0) ≡ get_or (numbers old) (j * n + c) (pos 0)
    keeps_channels old same keeps j c below inside other =
        let here = in_block j c below inside in
        same_pair block old (j * n + c) (j * n + c) here (omega (arith, here, same)) (keeps j c below inside other)

  -- equal fronts are equal numbers
  pub front_numbers : (a b : List ℕ) (k : ℕ) → 2 * k ≤ length a → 2 * k ≤ length b → take (2 * k) a ≡ take (2 * k) b → take k (numbers a) ≡ take k (numbers b)
  front_numbers a b k fits fits' same = sym (samples_of_parts (S16 order) a k fits).0 ∙ ap numbers same ∙ (samples_of_parts (S16 order) b k fits').0
