-- Names that are taken out, as tests of a name.
use Rattle.std.proofs.Common.{◌≡◌, inl, inr, ℕ, List, [], ◌∷◌, ◌++◌, Bool, true, false, not, cond, filter, refl, sym, ◌∙◌, ap, subst}
use Rattle.std.proofs.lemmas.Bool.{cases_Bool, false≢true}
use Rattle.snd_disk.proofs.Lemmas.{same_name}
use Rattle.std.specs.String.{string_bytes}
use Rattle.std.specs.Str.{bytes_eq}
use Rattle.snd_files.specs.declared.folder.Taken.{Taken}
use Rattle.snd_files.specs.Folder.{is_out}

swap_true : (a b r : Bool) → cond a true (cond b true r) ≡ cond b true (cond a true r)
swap_true true true r = refl
swap_true true false r = refl
swap_true false true r = refl
swap_true false false r = refl

pub is_out-push : (taken : List Taken) (s : Taken) (n : List ℕ) → is_out (taken ++ s ∷ []) n ≡ cond (bytes_eq n (string_bytes s.name)) true (is_out taken n)
is_out-push [] s n = refl
is_out-push (t ∷ taken) s n = ap (cond (bytes_eq n (string_bytes t.name)) true) (is_out-push taken s n) ∙ swap_true (bytes_eq n (string_bytes t.name)) (bytes_eq n (string_bytes s.name)) (is_out taken n)

-- a step, by the test of the name that is taken away, that of the one asked, and of those two
step : (s name n : List ℕ) (r : Bool) → bytes_eq s name ≡ false → cond (bytes_eq n s) true (cond (bytes_eq n name) false r) ≡ cond (bytes_eq n name) false (cond (bytes_eq n s) true r)
step s name n r differ = elim (cases_Bool (bytes_eq n s)) [
  | inl is_s ↦ elim (cases_Bool (bytes_eq n name)) [
    | inl is_name ↦ absurd (false≢true (sym differ ∙ subst (λ (a : List ℕ). bytes_eq a name ≡ true) (same_name n s is_s) is_name))
    | inr differs ↦ rw (is_s, differs)
  ]
  | inr no_s ↦ rw no_s
]

none_out : (b : Bool) → false ≡ cond b false false
none_out true = refl
none_out false = refl

-- where the name taken away is this one
gone : (s name n : List ℕ) (r : Bool) → s ≡ name → cond (bytes_eq n name) false r ≡ cond (bytes_eq n name) false (cond (bytes_eq n s) true r)
gone s name n r is = elim (cases_Bool (bytes_eq n name)) [
  | inl is_name ↦ rw is_name
  | inr differs ↦ let no_s : bytes_eq n s ≡ false = ap (bytes_eq n) is ∙ differs in rw (differs, no_s)
]

pub is_out-filter : (name : List ℕ) (taken : List Taken) (n : List ℕ) → is_out (filter (λ s. not (bytes_eq (string_bytes s.name) name)) taken) n ≡ cond (bytes_eq n name) false (is_out taken n)
is_out-filter name [] n = none_out (bytes_eq n name)
is_out-filter name (s ∷ taken) n = elim (cases_Bool (bytes_eq (string_bytes s.name) name)) [
  | inl is ↦ rw is (is_out-filter name taken n ∙ gone (string_bytes s.name) name n (is_out taken n) (same_name (string_bytes s.name) name is))
  | inr differs ↦ rw differs (ap (cond (bytes_eq n (string_bytes s.name)) true) (is_out-filter name taken n) ∙ step (string_bytes s.name) name n (is_out taken n) differs)
]
