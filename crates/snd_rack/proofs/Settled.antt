-- The settings that a text says are settled.
use Rattle.std.proofs.Common.{inl, inr, ◌⊎◌, ◌≡◌, ◌≤◌, ℕ, List, [], ◌∷◌, Option, Some, None, IfSome, option_map, length, codes, nat_le, refl, sym, subst, arith}
use Rattle.std.specs.Option.{option_and_then, option_or}
use Rattle.std.specs.List.{filter_map, list_all}
use Rattle.std.specs.Str.{bytes_eq}
use Rattle.std.proofs.lemmas.Bool.{cases_Bool, leb-true}
use Rattle.snd_rack.specs.Spec.{behind, each_says, factor_by, fade_of, gain_of, invert_of, item_of, number_in, parts, pick_of, places_of, within}
use Rattle.snd_rack.specs.Passing.{AllSettled}
use Rattle.snd_rack.specs.Setting.{stated}
use Rattle.snd_rack.specs.Stage.{IsSettled, Stated}
use Rattle.snd_rack.specs.declared.setting.Setting.{Setting}
use Rattle.snd_rack.proofs.Listed.{length_said, parts_some, says}

-- a fact of what one option says
then : {A B : Type 0} (P : B → Type 0) (f : A → Option B) → ((x : A) → IfSome (f x) P) → (o : Option A) → IfSome (option_and_then f o) P
then P f h None = tt
then P f h (Some x) = h x

mapped_to : {A B : Type 0} (P : B → Type 0) (f : A → B) (o : Option A) → IfSome o (λ x. P (f x)) → IfSome (option_map f o) P
mapped_to P f None h = tt
mapped_to P f (Some x) h = h

or_else : {A : Type 0} (P : A → Type 0) (o p : Option A) → IfSome o P → IfSome p P → IfSome (option_or o p) P
or_else P None p h k = k
or_else P (Some x) p h k = h

always : {A : Type 0} (P : A → Type 0) → ((x : A) → P x) → (o : Option A) → IfSome o P
always P h None = tt
always P h (Some x) = h x

least_within : (least most n : ℕ) → IfSome (within least most n) (λ m. least ≤ m)
least_within least most n =
    elim (cases_Bool (nat_le least n)) [
      | inl le ↦ elim (cases_Bool (nat_le n most)) [ inl ge ↦ rw (le, ge) (leb-true least n le) | inr gt ↦ rw (le, gt) tt ]
      | inr lt ↦ rw lt tt
    ]

least_of : (least most : ℕ) (text : List ℕ) → IfSome (number_in least most text) (λ m. least ≤ m)
unfolding number_in
least_of least most text = elim (cases_Bool (nat_le (length text) 10)) [
  | inl few ↦ rw few (then (λ m. least ≤ m) (within least most) (least_within least most) _)
  | inr many ↦ rw many tt
]

factor : (ps : List (List ℕ)) → IfSome (factor_by ps) IsSettled
factor [] = tt
factor (a ∷ []) = tt
factor (a ∷ b ∷ []) = then IsSettled (λ upper. option_map (Stated.gain upper) (number_in 1 65535 b)) (λ upper. mapped_to IsSettled (Stated.gain upper) (number_in 1 65535 b) (least_of 1 65535 b)) (number_in 0 65535 a)
factor (a ∷ b ∷ c ∷ ps) = tt

said : {T : Type 0} (form : List ℕ → Option T) (most : ℕ) (ws : List (List ℕ)) → 1 ≤ length ws
    → IfSome (each_says form most ws) (λ xs. (1 ≤ length xs) × (length xs ≤ most))
said form most ws some =
    elim (cases_Bool (nat_le (length ws) most)) [
      | inl le ↦ elim (cases_Bool (list_all (says form) ws)) [
        | inl e ↦ rw (le, e) (let same = length_said form ws e in (omega (arith, same), omega (arith, same, leb-true (length ws) most le)))
        | inr e ↦ rw (le, e) tt
      ]
      | inr gt ↦ rw gt tt
    ]

picked : (text : List ℕ) → IfSome (places_of text) (λ xs. (1 ≤ length xs) × (length xs ≤ 256))
unfolding places_of
picked text = said (number_in 0 255) 256 (parts 46 text) (parts_some 46 text)

one : (text : List ℕ) → IfSome (item_of text) IsSettled
unfolding item_of gain_of pick_of fade_of invert_of
one text =
    or_else IsSettled (gain_of text) _ (then IsSettled (λ numbers. factor_by (parts 47 numbers)) (λ numbers. factor (parts 47 numbers)) (behind (codes "gain:") text))
    (or_else IsSettled (pick_of text) _ (mapped_to IsSettled Stated.pick _ (then (λ xs. (1 ≤ length xs) × (length xs ≤ 256)) places_of picked (behind (codes "map:") text)))
    (or_else IsSettled (fade_of text) (invert_of text)
    (mapped_to IsSettled Stated.fade _ (then (λ m. 1 ≤ m) (number_in 1 4294967295) (least_of 1 4294967295) (behind (codes "fade:") text)))
    (elim (cases_Bool (bytes_eq text (codes "invert"))) [ inl e ↦ rw e tt | inr e ↦ rw e tt ])))

pub settled_of : (text : List ℕ) (r : Option Setting) → option_map stated r ≡ item_of text → IfSome r (λ s. IsSettled (stated s))
settled_of text None e = tt
settled_of text (Some s) e = subst (λ (o : Option Stated). IfSome o IsSettled) (sym e) (one text)

said_or_not : {A : Type 0} (o : Option A) → (o ≡ None) ⊎ ((x : A) × (o ≡ Some x))
said_or_not None = inl refl
said_or_not (Some x) = inr (x, refl)

pub all_settled : (ps : List (List ℕ)) → AllSettled (filter_map item_of ps)
all_settled [] = tt
all_settled (p ∷ ps) = elim (said_or_not (item_of p)) [
  | inl none ↦ rw none (all_settled ps)
  | inr some ↦ rw some.1 (subst (λ (o : Option Stated). IfSome o IsSettled) some.1 (one p), all_settled ps)
]
