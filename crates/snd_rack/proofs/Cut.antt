-- Lists cut into frames of one size.
use Rattle.std.proofs.Common.{◌≡◌, ℕ, zero, suc, ◌+◌, ◌*◌, ◌/◌, ◌<◌, ◌≤◌, ℤ, List, [], ◌∷◌, ◌++◌, length, drop, take, refl, sym, ap, ◌∙◌, arith}
use Rattle.std.proofs.Math.Nat.{div-eq_of_lt, mul-add-div, mul-div_cancel}
use Rattle.std.proofs.lemmas.List.{append_assoc, drop_at, length-append, length-drop, length-take-le, take-append-drop, take_at}
use Rattle.snd_pcm.specs.Groups.{first_groups, groups}
use Rattle.snd_rack.specs.Passing.{joined}

pub groups-cons : {X : Type 0} (k : ℕ) (piece rest : List X) → 0 < k → length piece ≡ k → groups k (piece ++ rest) ≡ piece ∷ groups k rest
groups-cons k piece rest some len =
    ap (λ n. first_groups k n (piece ++ rest)) (one_group k piece rest some len) ∙ ap (λ l. l ∷ first_groups k (length rest / k) (drop k (piece ++ rest))) (take_at piece rest k len)
    ∙ ap (λ l. piece ∷ first_groups k (length rest / k) l) (drop_at piece rest k len)
  where
    one_group : {X : Type 0} (k : ℕ) (piece rest : List X) → 0 < k → length piece ≡ k → length (piece ++ rest) / k ≡ suc (length rest / k)
    one_group k piece rest some len =
        let more : (k * 1 + length rest) / k ≡ 1 + length rest / k = mul-add-div some 1 (length rest) in
        let size : length (piece ++ rest) ≡ k * 1 + length rest = omega (arith, length-append piece rest, len) in
        let last : 1 + length rest / k ≡ suc (length rest / k) = omega arith in
        ap (λ n. n / k) size ∙ more ∙ last

length_first : {X : Type 0} (k n : ℕ) (xs : List X) → length (first_groups k n xs) ≡ n
length_first k zero xs = refl
length_first k (suc n) xs = ap suc (length_first k n (drop k xs))

pub length_groups : {X : Type 0} (k : ℕ) (xs : List X) → length (groups k xs) ≡ length xs / k
length_groups k xs = length_first k (length xs / k) xs

pub no_group : {X : Type 0} (k : ℕ) (xs : List X) → length xs < k → groups k xs ≡ []
no_group k xs lt = ap (λ n. first_groups k n xs) (div-eq_of_lt lt)

-- so many whole ones in front
pub groups_split : {X : Type 0} (k m : ℕ) (xs ys : List X) → 0 < k → length xs ≡ m * k → groups k (xs ++ ys) ≡ groups k xs ++ groups k ys
groups_split k zero [] ys some len = sym (ap (λ l. l ++ groups k ys) (no_group k [] some))
groups_split k zero (x ∷ xs) ys some len = absurd (omega (arith, len))
groups_split k (suc m) xs ys some len =
    let here : k ≤ length xs = omega (arith, len) in
    let size = length-take-le k xs here in
    let left : length (drop k xs) ≡ m * k = omega (arith, len, length-drop k xs) in
    let parts : take k xs ++ drop k xs ≡ xs = take-append-drop k xs in
    ap (λ l. groups k (l ++ ys)) (sym parts) ∙ ap (groups k) (append_assoc (take k xs) (drop k xs) ys)
    ∙ groups-cons k (take k xs) (drop k xs ++ ys) some size ∙ ap (λ l. take k xs ∷ l) (groups_split k m (drop k xs) ys some left)
    ∙ sym (ap (λ l. l ++ groups k ys) (groups-cons k (take k xs) (drop k xs) some size)) ∙ ap (λ l. groups k l ++ groups k ys) parts

-- ---- frames of one size

abbrev pub Sized : ℕ → List (List ℤ) → Type 0
Sized c [] = Unit {0}
Sized c (frame ∷ frames) = (length frame ≡ c) × Sized c frames

pub sized_first : (c n : ℕ) (xs : List ℤ) → n * c ≤ length xs → Sized c (first_groups c n xs)
sized_first c zero xs le = tt
sized_first c (suc n) xs le =
    let here : c ≤ length xs = omega (arith, le) in
    (length-take-le c xs here, sized_first c n (drop c xs) (omega (arith, le, length-drop c xs)))

joined_size : (c : ℕ) (frames : List (List ℤ)) → Sized c frames → length (joined frames) ≡ length frames * c
joined_size c [] all = omega arith
joined_size c (frame ∷ frames) all = omega (arith, length-append frame (joined frames), all.0, joined_size c frames all.1)

pub groups_joined : (c : ℕ) (frames : List (List ℤ)) → 0 < c → Sized c frames → groups c (joined frames) ≡ frames
groups_joined c [] some all = no_group c [] some
groups_joined c (frame ∷ frames) some all = groups-cons c frame (joined frames) some all.0 ∙ ap (λ l. frame ∷ l) (groups_joined c frames some all.1)

joined_first : (c n : ℕ) (xs : List ℤ) → length xs ≡ n * c → joined (first_groups c n xs) ≡ xs
joined_first c zero [] len = refl
joined_first c zero (x ∷ xs) len = absurd (omega (arith, len))
joined_first c (suc n) xs len =
    ap (λ l. take c xs ++ l) (joined_first c n (drop c xs) (omega (arith, len, length-drop c xs))) ∙ take-append-drop c xs

-- the frames of a list that has so many and no more
module _ (c n : ℕ) (xs : List ℤ) (some : 0 < c) (len : length xs ≡ n * c) where
  pub count_is : length xs / c ≡ n
  count_is = ap (λ m. m / c) len ∙ mul-div_cancel n some

  pub groups_sized : Sized c (groups c xs)
  groups_sized = sized_first c (length xs / c) xs (omega (arith, len, ap (λ m. m * c) count_is))

  pub joined_groups : joined (groups c xs) ≡ xs
  joined_groups = ap (λ m. joined (first_groups c m xs)) count_is ∙ joined_first c n xs len

pub size_joined : (c : ℕ) (frames : List (List ℤ)) → Sized c frames → length (joined frames) ≡ length frames * c
size_joined c frames all = joined_size c frames all
