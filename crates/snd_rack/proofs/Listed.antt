-- Texts that each say something.
use Rattle.std.proofs.Common.{inl, inr, ◌≡◌, ◌≢◌, ◌==◌, ℕ, zero, suc, ◌+◌, ◌<◌, ◌≤◌, Bool, true, false, ◌&&◌, List, [], ◌∷◌, Option, Some, None, ◌++◌, option_map, slice_get, length, drop, nat_le, refl, sym, ap, ◌∙◌, arith}
use Rattle.std.proofs.lemmas.Bool.{cases_Bool, le-leb, lt-leb}
use Rattle.std.specs.List.{filter_map, list_all}
use Rattle.std.specs.Option.{is_some, option_and_then}
use Rattle.std.proofs.lemmas.List.{append-nil}
use Rattle.std.proofs.lemmas.List.Splits.{length-slice_split}
use Rattle.snd_rack.specs.Spec.{each_says, factor_by, parts}

-- a list from a place on, where an element stands there
pub drop_get : {X : Type 0} (xs : List X) (at : ℕ) (x : X) → slice_get xs at ≡ Some x → drop at xs ≡ x ∷ drop (at + 1) xs
drop_get [] at x there = cc
drop_get (y ∷ xs) zero x there = cc
drop_get (y ∷ xs) (suc at) x there =
    let next : suc at + 1 ≡ suc (at + 1) = omega arith in
    drop_get xs at x there ∙ ap (λ n. x ∷ drop n (y ∷ xs)) (sym next)

-- a text has a part at least
pub parts_some : (byte : ℕ) (text : List ℕ) → 1 ≤ length (parts byte text)
parts_some byte text = omega (arith, length-slice_split (λ c. c == byte) text)

module _ {W T : Type 0} (form : W → Option T) where
  abbrev pub says : W → Bool
  says w = is_some (form w)

  -- one text says something, and those behind it the rest
  pub read_on : (ws : List W) (k : ℕ) (w : W) (x : T) → slice_get ws k ≡ Some w → form w ≡ Some x
      → filter_map form (drop k ws) ≡ x ∷ filter_map form (drop (k + 1) ws)
  read_on ws k w x there e = ap (filter_map form) (drop_get ws k w there) ∙ rw e refl

  pub said_on : (ws : List W) (k : ℕ) (w : W) (x : T) → slice_get ws k ≡ Some w → form w ≡ Some x
      → list_all says (drop k ws) ≡ list_all says (drop (k + 1) ws)
  said_on ws k w x there e = ap (list_all says) (drop_get ws k w there) ∙ rw e refl

  pub not_said : (ws : List W) (k : ℕ) (w : W) → slice_get ws k ≡ Some w → form w ≡ None → list_all says (drop k ws) ≡ false
  not_said ws k w there e = ap (list_all says) (drop_get ws k w there) ∙ rw e refl

  -- where all say something, what they say has their number and places
  one_said : (w : W) (o : Option T) (rest : Bool) → (is_some o && rest) ≡ true → (x : T) × (o ≡ Some x) × (rest ≡ true)
  one_said w None rest e = cc
  one_said w (Some x) rest e = (x, refl, e)

  pub length_said : (ws : List W) → list_all says ws ≡ true → length (filter_map form ws) ≡ length ws
  length_said [] e = refl
  length_said (w ∷ ws) e = let one = one_said w (form w) (list_all says ws) e in rw one.1 (ap suc (length_said ws one.2))

  pub get_said : (ws : List W) (k : ℕ) → list_all says ws ≡ true → slice_get (filter_map form ws) k ≡ option_and_then form (slice_get ws k)
  get_said [] k e = refl
  get_said (w ∷ ws) zero e = let one = one_said w (form w) (list_all says ws) e in rw one.1 refl
  get_said (w ∷ ws) (suc k) e = let one = one_said w (form w) (list_all says ws) e in rw one.1 (get_said ws k one.2)

-- two parts, and any other number of them
pub are_two : {X : Type 0} (ws : List X) (a b : X) → length ws ≡ 2 → slice_get ws 0 ≡ Some a → slice_get ws 1 ≡ Some b → ws ≡ a ∷ b ∷ []
are_two [] a b e ea eb = absurd (omega (arith, e))
are_two (x ∷ []) a b e ea eb = absurd (omega (arith, e))
are_two (x ∷ y ∷ []) a b e ea eb = cc
are_two (x ∷ y ∷ z ∷ ws) a b e ea eb = absurd (omega (arith, e))

pub not_two : (ws : List (List ℕ)) → length ws ≢ 2 → factor_by ws ≡ None
not_two [] ne = refl
not_two (a ∷ []) ne = refl
not_two (a ∷ b ∷ []) ne = absurd (ne refl)
not_two (a ∷ b ∷ c ∷ ws) ne = refl

-- what texts say together
module _ {T : Type 0} (form : List ℕ → Option T) (most : ℕ) (ws : List (List ℕ)) where
  pub too_many : most < length ws → each_says form most ws ≡ None
  too_many lt = rw (lt-leb (length ws) most lt) refl

  pub one_not : list_all (says form) ws ≡ false → each_says form most ws ≡ None
  one_not e = elim (cases_Bool (nat_le (length ws) most)) [ inl few ↦ rw (few, e) refl | inr many ↦ rw many refl ]

  pub all_said : length ws ≤ most → list_all (says form) ws ≡ true → each_says form most ws ≡ Some (filter_map form ws)
  all_said le e = rw (le-leb (length ws) most le, e) refl

-- an element stands at each place below the length
pub none_there : {X : Type 0} (xs : List X) (at : ℕ) → at < length xs → slice_get xs at ≡ None → ⊥
none_there [] at lt e = omega (arith, lt)
none_there (x ∷ xs) zero lt e = cc
none_there (x ∷ xs) (suc at) lt e = none_there xs at (omega (arith, lt)) e

-- nothing stands behind
pub whole : {X : Type 0} (xs ys zs : List X) → ys ≡ [] → xs ++ ys ≡ zs → xs ≡ zs
whole xs ys zs none e = sym (append-nil xs) ∙ ap (λ l. xs ++ l) (sym none) ∙ e

-- what the code says of an element that is there
pub there : {S T : Type 0} (f : S → T) (r : Option S) (xs : List T) (at : ℕ) (x : S) → option_map f r ≡ slice_get xs at → r ≡ Some x → slice_get xs at ≡ Some (f x)
there f r xs at x e is = sym e ∙ ap (option_map f) is

pub not_there : {S T : Type 0} (f : S → T) (r : Option S) (xs : List T) (at : ℕ) → option_map f r ≡ slice_get xs at → r ≡ None → at < length xs → ⊥
not_there f r xs at e is lt = none_there xs at lt (sym e ∙ ap (option_map f) is)
