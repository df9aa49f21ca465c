-- Samples made one after the other, of numbers that are tested at the same time.
use Rattle.std.proofs.Common.{◌≡◌, ◌∙◌, ap, sym, subst, ℕ, ◌+◌, ◌*◌, ◌<◌, ◌≤◌, ℤ, pos, ◌≤ℤ◌, List, [], ◌∷◌, ◌++◌, All, length, get_or, set, take, append_assoc, arith}
use Rattle.std.proofs.lemmas.Int.{int_max_is, int_min_is, ints}
use Rattle.std.proofs.lemmas.List.{append-nil, length-set, places, take_more, take_more_set}
use Rattle.std.proofs.lemmas.Slice.{take-put_mid}
use borrow.Rule.Slice.PartMut.{put_mid}
use Rattle.std.specs.Int.{int_max, int_min}
use Rattle.snd_pcm.specs.Pcm.{sample_bytes, samples_bytes}
use Rattle.snd_fields.specs.declared.field.Order.TheVariants.{Big}
use Rattle.snd_pcm.specs.declared.linear.Linear.{Linear}
use Rattle.snd_pcm.specs.declared.linear.Linear.TheVariants.{S16}
use Rattle.snd_pcm.proofs.RoundTrips.{bytes_of_joined}

-- the clamp makes no other number of one that is in range
pub clamped : (low high x : ℤ) → low ≤ℤ x → x ≤ℤ high → int_max low (int_min x high) ≡ x
clamped low high x above below = omega (arith, ints, above, below, int_min_is x high, int_max_is low (int_min x high))

pub length_kept : (bytes piece : List ℕ) (a k : ℕ) → a + k ≤ length bytes → length piece ≡ k → length (put_mid a k bytes piece) ≡ length bytes
length_kept bytes piece a k within same = grind (arith, places)

one_coded : (form : Linear) (x : ℤ) → samples_bytes form (x ∷ []) ≡ sample_bytes form x
unfolding samples_bytes
one_coded form x = append-nil (sample_bytes form x)

-- the bytes of one sample more, where the numbers so far have a property by which its bytes are those of its number
one_more_coded : (form : Linear) (P : ℤ → Type 0) (from : List ℤ) (front piece new : List ℕ) (i : ℕ) → i < length from → new ≡ front ++ piece
    → (All P (take i from) → front ≡ samples_bytes form (take i from))
    → (P (get_or from i (pos 0)) → piece ≡ sample_bytes form (get_or from i (pos 0)))
    → All P (take (i + 1) from) → new ≡ samples_bytes form (take (i + 1) from)
one_more_coded form P from front piece new i lt longer so_far is all =
    let x = get_or from i (pos 0) in
    let before : All P (take i from) =
    λ n d less. subst P (let e : get_or (take (i + 1) from) n d ≡ get_or (take i from) n d = grind (arith, places) in e) (all n d (grind (arith, places))) in
    let here : P x = subst P (let e : get_or (take (i + 1) from) i (pos 0) ≡ x = grind (arith, places) in e) (all i (pos 0) (grind (arith, places))) in
    longer
    ∙ ap (λ l. l ++ piece) (so_far before)
    ∙ ap (λ l. samples_bytes form (take i from) ++ l) (is here ∙ sym (one_coded form x))
    ∙ sym (bytes_of_joined form (take i from) (x ∷ []))
    ∙ ap (samples_bytes form) (sym (take_more from i (pos 0) lt))

pub coded_more : (form : Linear) (P : ℤ → Type 0) (from : List ℤ) (bytes piece : List ℕ) (i k : ℕ) → i < length from → length bytes ≡ 2 * length from → length piece ≡ 2
    → (All P (take i from) → take (2 * i) bytes ≡ samples_bytes form (take i from))
    → (P (get_or from i (pos 0)) → piece ≡ sample_bytes form (get_or from i (pos 0)))
    → All P (take (i + 1) from) → take (2 * (i + 1)) (put_mid (2 * i) k bytes piece) ≡ samples_bytes form (take (i + 1) from)
coded_more form P from bytes piece i k lt size two so_far is =
    one_more_coded form P from (take (2 * i) bytes) piece _ i lt (take-put_mid (2 * i) k bytes piece (2 * (i + 1)) (omega (arith, two)) (omega (arith, size, lt))) so_far is

-- two bytes put one by one
put_two : (bytes : List ℕ) (n a b : ℕ) → n + 1 < length bytes → take (n + 2) (set (set bytes n a) (n + 1) b) ≡ take n bytes ++ a ∷ b ∷ []
put_two bytes n a b lt =
    let second = take_more_set (set bytes n a) (n + 1) b (omega (arith, length-set bytes n a)) in
    let first = take_more_set bytes n a (omega arith) in
    ap (λ (m : ℕ). take m (set (set bytes n a) (n + 1) b)) (let e : n + 2 ≡ n + 1 + 1 = omega arith in e)
    ∙ second ∙ ap (λ l. l ++ b ∷ []) first ∙ append_assoc (take n bytes) (a ∷ []) (b ∷ [])

pub length_of_two : (bytes : List ℕ) (m n a b : ℕ) → length (set (set bytes m a) n b) ≡ length bytes
length_of_two bytes m n a b = length-set (set bytes m a) n b ∙ length-set bytes m a

pub two_coded : (P : ℤ → Type 0) (from : List ℤ) (bytes piece : List ℕ) (i : ℕ) → i < length from → length bytes ≡ 2 * length from
    → (All P (take i from) → take (2 * i) bytes ≡ samples_bytes (S16 Big) (take i from))
    → (P (get_or from i (pos 0)) → piece ≡ sample_bytes (S16 Big) (get_or from i (pos 0)))
    → All P (take (i + 1) from) → take (2 * (i + 1)) (set (set bytes (2 * i) (get_or piece 0 0)) (2 * i + 1) (get_or piece 1 0)) ≡ samples_bytes (S16 Big) (take (i + 1) from)
two_coded P from bytes piece i lt size so_far is =
    let a = get_or piece 0 0 in
    let b = get_or piece 1 0 in
    let next : 2 * (i + 1) ≡ 2 * i + 2 = omega arith in
    one_more_coded (S16 Big) P from (take (2 * i) bytes) (a ∷ b ∷ []) _ i lt
    (ap (λ (m : ℕ). take m (set (set bytes (2 * i) a) (2 * i + 1) b)) next ∙ put_two bytes (2 * i) a b (omega arith)) so_far
    (λ fits. ap (λ l. get_or l 0 0 ∷ get_or l 1 0 ∷ []) (is fits))
