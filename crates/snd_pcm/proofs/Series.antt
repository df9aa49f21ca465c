-- Samples one after the other.
use Rattle.std.proofs.Common.{◌≡◌, ℕ, zero, suc, ◌+◌, ◌*◌, ◌/◌, ◌<◌, ◌≤◌, ℤ, pos, List, [], ◌∷◌, ◌++◌, length, get_or, set, take, drop, refl, sym, ◌∙◌, ap, arith, append_assoc}
use Rattle.std.proofs.Math.Nat.{div-le_of_le-mul, mul-div_cancel_left}
use Rattle.std.proofs.lemmas.List.{append-nil, at_drop_more, drop-drop, drop_all, drop_more, get_or-map, length-map, length-set, places, take_all, take_more_set}
use Rattle.std.specs.List.{flat_map}
use Rattle.snd_fields.proofs.Numbers.{number_same}
use Rattle.snd_fields.specs.Field.{number}
use Rattle.snd_pcm.specs.declared.linear.Linear.{Linear}
use Rattle.snd_pcm.specs.declared.linear.Linear.TheVariants.{U8, S8, S16, S24, S32}
use Rattle.snd_pcm.specs.Groups.{first_groups, groups}
use Rattle.snd_pcm.specs.Pcm.{byte_count, order_of, sample, sample_bytes, samples, samples_bytes, value}

pub byte_count_pos : (form : Linear) → 0 < byte_count form
byte_count_pos U8 = omega arith
byte_count_pos S8 = omega arith
byte_count_pos (S16 order) = omega arith
byte_count_pos (S24 order) = omega arith
byte_count_pos (S32 order) = omega arith

-- ---- groups

pub length-first_groups : {X : Type 0} (k n : ℕ) (xs : List X) → length (first_groups k n xs) ≡ n
length-first_groups k zero xs = refl
length-first_groups k (suc n) xs = let e = length-first_groups k n (drop k xs) in omega (arith, e)

pub get_or-first_groups : {X : Type 0} (k n : ℕ) (xs : List X) (i : ℕ) (d : List X) → i < n → get_or (first_groups k n xs) i d ≡ take k (drop (k * i) xs)
get_or-first_groups k zero xs i d lt = absurd (omega arith)
get_or-first_groups k (suc n) xs zero d lt = ap (λ (m : ℕ). take k (drop m xs)) (let e : 0 ≡ k * 0 = omega arith in e)
get_or-first_groups k (suc n) xs (suc i) d lt =
    get_or-first_groups k n (drop k xs) i d (omega arith) ∙ ap (take k) (drop-drop (k * i) k xs) ∙ ap (λ (m : ℕ). take k (drop m xs)) (let e : k + k * i ≡ k * suc i = omega arith in e)

pub length-samples : (form : Linear) (b : List ℕ) → length (samples form b) ≡ length b / byte_count form
unfolding samples
length-samples form b = length-map (groups (byte_count form) b) (sample form) ∙ length-first_groups (byte_count form) _ b

-- a number read at a place is that of the bytes cut out there
pub at_place : (form : Linear) (b : List ℕ) (at : ℕ) → sample form (take (byte_count form) (drop at b)) ≡ value form (number (order_of form) b at (byte_count form))
at_place form b at =
    ap (value form) (number_same (order_of form) (byte_count form) 0 at (take (byte_count form) (drop at b)) b
    (λ i p q lt pe qe. in_piece b at (byte_count form) i p q lt pe qe))
  where
    in_piece : (b : List ℕ) (at k i p q : ℕ) → i < k → p ≡ 0 + i → q ≡ at + i → get_or (take k (drop at b)) p 0 ≡ get_or b q 0
    in_piece b at k i p q lt pe qe = rw (pe, qe) (grind (arith, places))

pub get_or-samples : (form : Linear) (b : List ℕ) (i : ℕ) (d : ℤ) → i < length b / byte_count form
    → get_or (samples form b) i d ≡ value form (number (order_of form) b (byte_count form * i) (byte_count form))
unfolding samples
get_or-samples form b i d lt =
    let k = byte_count form in
    get_or-map (sample form) (groups k b) i [] d (omega (arith, length-first_groups k (length b / k) b))
    ∙ ap (sample form) (get_or-first_groups k (length b / k) b i [] lt) ∙ at_place form b (k * i)

-- ---- a loop that reads: what it has written, and what it has yet to write

pub read_step : (form : Linear) (b : List ℕ) (into : List ℤ) (i : ℕ) (x : ℤ) → length b ≡ byte_count form * length into → i < length into
    → x ≡ value form (number (order_of form) b (byte_count form * i) (byte_count form))
    → take i into ++ drop i (samples form b) ≡ samples form b
    → take (i + 1) (set into i x) ++ drop (i + 1) (samples form b) ≡ samples form b
read_step form b into i x whole lt is so_far =
    let count = length-samples form b ∙ ap (λ n. n / byte_count form) whole ∙ mul-div_cancel_left (length into) (byte_count_pos form) in
    let same : x ≡ get_or (samples form b) i (pos 0) = is ∙ sym (get_or-samples form b i (pos 0) (omega (arith, count, length-samples form b))) in
    ap (λ l. l ++ drop (i + 1) (samples form b)) (take_more_set into i x lt)
    ∙ append_assoc (take i into) (x ∷ []) (drop (i + 1) (samples form b))
    ∙ ap (λ y. take i into ++ y ∷ drop (i + 1) (samples form b)) same
    ∙ ap (λ l. take i into ++ l) (sym (drop_more (samples form b) i (pos 0) (omega (arith, count))))
    ∙ so_far

pub read_all : (form : Linear) (b : List ℕ) (into : List ℤ) (i : ℕ) → length b ≤ byte_count form * i → length into ≤ i
    → take i into ++ drop i (samples form b) ≡ into
read_all form b into i all full =
    let count = div-le_of_le-mul (byte_count form) {m = length b} {n = i} all in
    ap (λ l. take i into ++ l) (drop_all i (samples form b) (omega (arith, length-samples form b, count)))
    ∙ append-nil (take i into) ∙ take_all i into full

-- ---- a loop that writes: what it has written, and the bytes of what is left

pub samples_bytes-more : (form : Linear) (from : List ℤ) (i : ℕ) → i < length from
    → samples_bytes form (drop i from) ≡ sample_bytes form (get_or from i (pos 0)) ++ samples_bytes form (drop (i + 1) from)
unfolding samples_bytes
samples_bytes-more form from i lt = at_drop_more (flat_map (sample_bytes form)) from i (pos 0) lt

write_step : (form : Linear) (from : List ℤ) (old new piece : List ℕ) (i : ℕ) → i < length from → new ≡ old ++ piece
    → piece ≡ sample_bytes form (get_or from i (pos 0)) → old ++ samples_bytes form (drop i from) ≡ samples_bytes form from
    → new ++ samples_bytes form (drop (i + 1) from) ≡ samples_bytes form from
write_step form from old new piece i lt longer is so_far =
    let rest = samples_bytes form (drop (i + 1) from) in
    ap (λ l. l ++ rest) longer ∙ append_assoc old piece rest ∙ ap (λ l. old ++ (l ++ rest)) is
    ∙ ap (λ l. old ++ l) (sym (samples_bytes-more form from i lt)) ∙ so_far

put2 : (bytes : List ℕ) (n a b : ℕ) → n + 1 < length bytes → take (n + 2) (set (set bytes n a) (n + 1) b) ≡ take n bytes ++ a ∷ b ∷ []
put2 bytes n a b lt =
    let second = take_more_set (set bytes n a) (n + 1) b (omega (arith, length-set bytes n a)) in
    let first = take_more_set bytes n a (omega arith) in
    ap (λ (m : ℕ). take m (set (set bytes n a) (n + 1) b)) (let e : n + 2 ≡ n + 1 + 1 = omega arith in e)
    ∙ second ∙ ap (λ l. l ++ b ∷ []) first ∙ append_assoc (take n bytes) (a ∷ []) (b ∷ [])

put3 : (bytes : List ℕ) (n a b c : ℕ) → n + 2 < length bytes
    → take (n + 3) (set (set (set bytes n a) (n + 1) b) (n + 2) c) ≡ take n bytes ++ a ∷ b ∷ c ∷ []
put3 bytes n a b c lt =
    let two = set (set bytes n a) (n + 1) b in
    let third = take_more_set two (n + 2) c (omega (arith, length-set (set bytes n a) (n + 1) b, length-set bytes n a)) in
    ap (λ (m : ℕ). take m (set two (n + 2) c)) (let e : n + 3 ≡ n + 2 + 1 = omega arith in e)
    ∙ third ∙ ap (λ l. l ++ c ∷ []) (put2 bytes n a b (omega arith)) ∙ append_assoc (take n bytes) (a ∷ b ∷ []) (c ∷ [])

put4 : (bytes : List ℕ) (n a b c d : ℕ) → n + 3 < length bytes
    → take (n + 4) (set (set (set (set bytes n a) (n + 1) b) (n + 2) c) (n + 3) d) ≡ take n bytes ++ a ∷ b ∷ c ∷ d ∷ []
put4 bytes n a b c d lt =
    let two = set (set bytes n a) (n + 1) b in
    let three = set two (n + 2) c in
    let fourth = take_more_set three (n + 3) d (omega (arith, length-set two (n + 2) c, length-set (set bytes n a) (n + 1) b, length-set bytes n a)) in
    ap (λ (m : ℕ). take m (set three (n + 3) d)) (let e : n + 4 ≡ n + 3 + 1 = omega arith in e)
    ∙ fourth ∙ ap (λ l. l ++ d ∷ []) (put3 bytes n a b c (omega arith)) ∙ append_assoc (take n bytes) (a ∷ b ∷ c ∷ []) (d ∷ [])

pub write_step1 : (form : Linear) (from : List ℤ) (bytes : List ℕ) (i a : ℕ) → length bytes ≡ length from → i < length from
    → a ∷ [] ≡ sample_bytes form (get_or from i (pos 0))
    → take i bytes ++ samples_bytes form (drop i from) ≡ samples_bytes form from
    → take (i + 1) (set bytes i a) ++ samples_bytes form (drop (i + 1) from) ≡ samples_bytes form from
write_step1 form from bytes i a room lt is so_far = write_step form from _ _ _ i lt (take_more_set bytes i a (omega arith)) is so_far

pub write_step2 : (form : Linear) (from : List ℤ) (bytes : List ℕ) (i a b : ℕ) → length bytes ≡ 2 * length from → i < length from
    → a ∷ b ∷ [] ≡ sample_bytes form (get_or from i (pos 0))
    → take (2 * i) bytes ++ samples_bytes form (drop i from) ≡ samples_bytes form from
    → take (2 * (i + 1)) (set (set bytes (2 * i) a) (2 * i + 1) b) ++ samples_bytes form (drop (i + 1) from) ≡ samples_bytes form from
write_step2 form from bytes i a b room lt is so_far =
    let next : 2 * (i + 1) ≡ 2 * i + 2 = omega arith in
    write_step form from _ _ _ i lt (ap (λ (m : ℕ). take m (set (set bytes (2 * i) a) (2 * i + 1) b)) next ∙ put2 bytes (2 * i) a b (omega arith)) is so_far

pub write_step3 : (form : Linear) (from : List ℤ) (bytes : List ℕ) (i a b c : ℕ) → length bytes ≡ 3 * length from → i < length from
    → a ∷ b ∷ c ∷ [] ≡ sample_bytes form (get_or from i (pos 0))
    → take (3 * i) bytes ++ samples_bytes form (drop i from) ≡ samples_bytes form from
    → take (3 * (i + 1)) (set (set (set bytes (3 * i) a) (3 * i + 1) b) (3 * i + 2) c) ++ samples_bytes form (drop (i + 1) from) ≡ samples_bytes form from
write_step3 form from bytes i a b c room lt is so_far =
    let next : 3 * (i + 1) ≡ 3 * i + 3 = omega arith in
    write_step form from _ _ _ i lt
    (ap (λ (m : ℕ). take m (set (set (set bytes (3 * i) a) (3 * i + 1) b) (3 * i + 2) c)) next ∙ put3 bytes (3 * i) a b c (omega arith)) is so_far

pub write_step4 : (form : Linear) (from : List ℤ) (bytes : List ℕ) (i a b c d : ℕ) → length bytes ≡ 4 * length from → i < length from
    → a ∷ b ∷ c ∷ d ∷ [] ≡ sample_bytes form (get_or from i (pos 0))
    → take (4 * i) bytes ++ samples_bytes form (drop i from) ≡ samples_bytes form from
    → take (4 * (i + 1)) (set (set (set (set bytes (4 * i) a) (4 * i + 1) b) (4 * i + 2) c) (4 * i + 3) d) ++ samples_bytes form (drop (i + 1) from) ≡ samples_bytes form from
write_step4 form from bytes i a b c d room lt is so_far =
    let next : 4 * (i + 1) ≡ 4 * i + 4 = omega arith in
    write_step form from _ _ _ i lt
    (ap (λ (m : ℕ). take m (set (set (set (set bytes (4 * i) a) (4 * i + 1) b) (4 * i + 2) c) (4 * i + 3) d)) next ∙ put4 bytes (4 * i) a b c d (omega arith)) is so_far

pub write_all : (form : Linear) (from : List ℤ) (bytes : List ℕ) (i n : ℕ) → length bytes ≤ n → length from ≤ i
    → take n bytes ++ samples_bytes form (drop i from) ≡ bytes
unfolding samples_bytes
write_all form from bytes i n full all =
    ap (λ l. take n bytes ++ flat_map (sample_bytes form) l) (drop_all i from all) ∙ append-nil (take n bytes) ∙ take_all n bytes full
