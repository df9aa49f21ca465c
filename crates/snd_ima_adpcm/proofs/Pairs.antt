-- Lists taken two entries at a time.
use Rattle.std.proofs.Common.{◌≡◌, zero, suc, ℕ, ◌+◌, ◌-◌, ◌*◌, ◌/◌, ◌%◌, ◌<◌, ◌≤◌, List, [], ◌∷◌, ◌++◌, length, get_or, take, drop, refl, sym, ap, ◌∙◌, arith}
use Rattle.std.specs.List.{All, slice_range}
use Rattle.std.proofs.lemmas.List.{drop_more, take_more, take-append-drop, drop-drop}
use Rattle.std.proofs.lemmas.List.Elements.{All-nil, All-cons, All-head, All-tail}
use Rattle.snd_ima_adpcm.specs.Frames.{firsts, seconds}

pub drop_two : {X : Type 0} (xs : List X) (n : ℕ) (d : X) → 2 * n + 1 < length xs → drop (2 * n) xs ≡ get_or xs (2 * n) d ∷ get_or xs (2 * n + 1) d ∷ drop (2 * (n + 1)) xs
drop_two {X} xs n d lt =
    let next : 2 * n + 1 + 1 ≡ 2 * (n + 1) = omega arith in
    drop_more xs (2 * n) d (omega arith) ∙ ap (λ (rest : List X). get_or xs (2 * n) d ∷ rest) (drop_more xs (2 * n + 1) d lt ∙ ap (λ k. get_or xs (2 * n + 1) d ∷ drop k xs) next)

-- .. and four
pub drop_four : {X : Type 0} (xs : List X) (n : ℕ) (d : X) → 4 * n + 3 < length xs
    → drop (4 * n) xs ≡ get_or xs (4 * n) d ∷ get_or xs (4 * n + 1) d ∷ get_or xs (4 * n + 2) d ∷ get_or xs (4 * n + 3) d ∷ drop (4 * (n + 1)) xs
drop_four {X} xs n d lt =
    let second : 4 * n + 1 + 1 ≡ 4 * n + 2 = omega arith in
    let third : 4 * n + 2 + 1 ≡ 4 * n + 3 = omega arith in
    let next : 4 * n + 3 + 1 ≡ 4 * (n + 1) = omega arith in
    drop_more xs (4 * n) d (omega arith)
    ∙ ap (λ (rest : List X). get_or xs (4 * n) d ∷ rest) (drop_more xs (4 * n + 1) d (omega arith) ∙ ap (λ k. get_or xs (4 * n + 1) d ∷ drop k xs) second
    ∙ ap (λ (rest : List X). get_or xs (4 * n + 1) d ∷ rest) (drop_more xs (4 * n + 2) d (omega arith) ∙ ap (λ k. get_or xs (4 * n + 2) d ∷ drop k xs) third
    ∙ ap (λ (rest : List X). get_or xs (4 * n + 2) d ∷ rest) (drop_more xs (4 * n + 3) d lt ∙ ap (λ k. get_or xs (4 * n + 3) d ∷ drop k xs) next)))

-- a list of which a front of even length is told apart
pub firsts-append : {X : Type 0} (xs ys : List X) → length xs % 2 ≡ 0 → firsts (xs ++ ys) ≡ firsts xs ++ firsts ys
firsts-append [] ys even = refl
firsts-append (x ∷ []) ys even = absurd (omega arith)
firsts-append {X} (x ∷ y ∷ xs) ys even = ap (λ (rest : List X). x ∷ rest) (firsts-append xs ys (omega arith))

pub seconds-append : {X : Type 0} (xs ys : List X) → length xs % 2 ≡ 0 → seconds (xs ++ ys) ≡ seconds xs ++ seconds ys
seconds-append [] ys even = refl
seconds-append (x ∷ []) ys even = absurd (omega arith)
seconds-append {X} (x ∷ y ∷ xs) ys even = ap (λ (rest : List X). y ∷ rest) (seconds-append xs ys (omega arith))

pub length-firsts : {X : Type 0} (xs : List X) → length (firsts xs) ≡ (length xs + 1) / 2
length-firsts [] = refl
length-firsts (x ∷ []) = refl
length-firsts (x ∷ y ∷ xs) = omega (arith, length-firsts xs)

pub length-seconds : {X : Type 0} (xs : List X) → length (seconds xs) ≡ length xs / 2
length-seconds [] = refl
length-seconds (x ∷ []) = refl
length-seconds (x ∷ y ∷ xs) = omega (arith, length-seconds xs)

pub All-firsts : {X : Type 0} (P : X → Type 0) (xs : List X) → All P xs → All P (firsts xs)
All-firsts P [] all = all
All-firsts P (x ∷ []) all = all
All-firsts P (x ∷ y ∷ xs) all = All-cons P x (firsts xs) (All-head P x (y ∷ xs) all) (All-firsts P xs (All-tail P y xs (All-tail P x (y ∷ xs) all)))

pub All-seconds : {X : Type 0} (P : X → Type 0) (xs : List X) → All P xs → All P (seconds xs)
All-seconds P [] all = all
All-seconds P (x ∷ []) all = All-nil P
All-seconds P (x ∷ y ∷ xs) all = All-cons P y (seconds xs) (All-head P y xs (All-tail P x (y ∷ xs) all)) (All-seconds P xs (All-tail P y xs (All-tail P x (y ∷ xs) all)))

-- a part of a list, and what comes behind it
pub part_and_rest : {X : Type 0} (xs : List X) (n m : ℕ) → n ≤ m → drop n xs ≡ slice_range xs n m ++ drop m xs
part_and_rest {X} xs n m le =
    let end : n + (m - n) ≡ m = omega arith in
    sym (take-append-drop (m - n) (drop n xs)) ∙ ap (λ (rest : List X). take (m - n) (drop n xs) ++ rest) (drop-drop (m - n) n xs ∙ ap (λ k. drop k xs) end)

pub first_two : {X : Type 0} (xs : List X) (d : X) → 2 ≤ length xs → xs ≡ get_or xs 0 d ∷ get_or xs 1 d ∷ drop 2 xs
first_two [] d le = absurd (omega arith)
first_two (x ∷ []) d le = absurd (omega arith)
first_two (x ∷ y ∷ xs) d le = refl

-- the entries of every second one
pub get_or-firsts : {X : Type 0} (xs : List X) (k : ℕ) (d : X) → 2 * k + 1 < length xs → get_or (firsts xs) k d ≡ get_or xs (2 * k) d
get_or-firsts [] k d lt = absurd (omega arith)
get_or-firsts (x ∷ []) k d lt = absurd (omega arith)
get_or-firsts (x ∷ y ∷ xs) zero d lt = refl
get_or-firsts (x ∷ y ∷ xs) (suc k) d lt = let e : 2 * suc k ≡ suc (suc (2 * k)) = omega arith in rw e (get_or-firsts xs k d (omega arith))

pub get_or-seconds : {X : Type 0} (xs : List X) (k : ℕ) (d : X) → 2 * k + 1 < length xs → get_or (seconds xs) k d ≡ get_or xs (2 * k + 1) d
get_or-seconds [] k d lt = absurd (omega arith)
get_or-seconds (x ∷ []) k d lt = absurd (omega arith)
get_or-seconds (x ∷ y ∷ xs) zero d lt = refl
get_or-seconds (x ∷ y ∷ xs) (suc k) d lt = let e : 2 * suc k + 1 ≡ suc (suc (2 * k + 1)) = omega arith in rw e (get_or-seconds xs k d (omega arith))

pub take-firsts-more : {X : Type 0} (xs : List X) (k : ℕ) (d : X) → 2 * k + 1 < length xs → take (k + 1) (firsts xs) ≡ take k (firsts xs) ++ get_or xs (2 * k) d ∷ []
take-firsts-more {X} xs k d lt = take_more (firsts xs) k d (omega (arith, length-firsts xs)) ∙ ap (λ (x : X). take k (firsts xs) ++ x ∷ []) (get_or-firsts xs k d lt)

pub take-seconds-more : {X : Type 0} (xs : List X) (k : ℕ) (d : X) → 2 * k + 1 < length xs → take (k + 1) (seconds xs) ≡ take k (seconds xs) ++ get_or xs (2 * k + 1) d ∷ []
take-seconds-more {X} xs k d lt = take_more (seconds xs) k d (omega (arith, length-seconds xs)) ∙ ap (λ (x : X). take k (seconds xs) ++ x ∷ []) (get_or-seconds xs k d lt)
