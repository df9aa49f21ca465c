-- What stands at one place: a format, or data.
use Rattle.std.proofs.Common.{◌≡◌, ◌∙◌, ℕ, zero, suc, ◌+◌, ◌-◌, ◌<◌, ◌≤◌, Bool, true, false, ◌&&◌, cond, List, Option, None, Some, option_map, length, take, drop, get_or, refl, sym, ap, inl, inr, arith}
use Rattle.std.proofs.lemmas.Bool.{cases_Bool, cases_lt, le-leb, lt-leb}
use Rattle.std.proofs.lemmas.List.{get_or-drop, get_or-take, length-drop}
use Rattle.std.specs.Prelude.{codes, nat_le}
use Rattle.snd_fields.proofs.Numbers.{number_same}
use Rattle.snd_fields.specs.Field.{number}
use Rattle.snd_fields.specs.declared.field.Order.TheVariants.{Little}
use Rattle.snd_layout.specs.Format.{format_of}
use Rattle.snd_layout.specs.Params.{Parameters}
use Rattle.snd_search.specs.Marks.{begins}
use Rattle.snd_search.specs.Search.{Found, body_len, data_here, fixed_format, format_here, stated_size}
use Rattle.snd_search.proofs.Marks.{begins_same, drop_drop, marked_at, take_take}

-- ---- choices

none_unless_first : {T : Type 0} (a b c : Bool) (x : Option T) → a ≡ false → cond (a && b && c) x None ≡ None
none_unless_first a b c x is = rw is refl

none_unless_last : {T : Type 0} (a b c : Bool) (x : Option T) → c ≡ false → cond (a && b && c) x None ≡ None
none_unless_last true true c x is = rw is refl
none_unless_last true false c x is = refl
none_unless_last false b c x is = refl

none_unless_one : {T : Type 0} (a b : Bool) (x : Option T) → a ≡ false → cond (a && b) x None ≡ None
none_unless_one a b x is = rw is refl

none_unless_both : {T : Type 0} (a b : Bool) (x : Option T) → b ≡ false → cond (a && b) x None ≡ None
none_unless_both true b x is = rw is refl
none_unless_both false b x is = refl

given_if_both : {T : Type 0} (a b : Bool) (x : Option T) → a ≡ true → b ≡ true → cond (a && b) x None ≡ x
given_if_both a b x first second = rw (first, second) refl

-- where one choice is none, or some value, so is another by the same test
both_none : {T : Type 0} (t : Bool) (n : ℕ) (x : Option T) → None ≡ cond t (Some n) None → cond t x None ≡ None
both_none true n x is = absurd (cc)
both_none false n x is = refl

both_some : {T : Type 0} (t : Bool) (m n : ℕ) (x : Option T) → Some m ≡ cond t (Some n) None → (m ≡ n) × (cond t x None ≡ x)
both_some true m n x is = (cc, refl)
both_some false m n x is = absurd (cc)

same_test : (a c a' c' : ℕ) → (a ≤ c → a' ≤ c') → (a' ≤ c' → a ≤ c) → nat_le a c ≡ nat_le a' c'
same_test a c a' c' to back = elim (cases_lt c a) [
  | inl over ↦ elim (cases_lt c' a') [
    | inl too ↦ lt-leb a c over ∙ sym (lt-leb a' c' too)
    | inr within ↦ absurd (omega (arith, over, back within))
  ]
  | inr within ↦ le-leb a c within ∙ sym (le-leb a' c' (to within))
]

-- ---- formats

pub no_format : (s : List ℕ) → begins (codes "fmt ") s ≡ false → format_here s ≡ None
no_format s is = none_unless_first (begins (codes "fmt ") s) _ _ _ is

-- no two marks of formats have a byte in common
other : (k : ℕ) → 1 ≤ k → k < 4 → get_or (codes "fmt ") k 0 ≡ 102 → ⊥
other zero some few is = omega (arith, some)
other (suc zero) some few is = omega (arith, is)
other (suc (suc zero)) some few is = omega (arith, is)
other (suc (suc (suc zero))) some few is = omega (arith, is)
other (suc (suc (suc (suc k)))) some few is = omega (arith, few)

pub apart : (s : List ℕ) (k : ℕ) → begins (codes "fmt ") s ≡ true → 1 ≤ k → k < 4 → begins (codes "fmt ") (drop k s) ≡ false
apart s k is some few = elim (cases_Bool (begins (codes "fmt ") (drop k s))) [
  | inl there ↦
      let first : get_or s k 0 ≡ 102 = ap (λ (j : ℕ). get_or s j 0) (let e : k ≡ k + 0 = omega arith in e) ∙ sym (get_or-drop k s 0 0) ∙ marked_at (codes "fmt ") (drop k s) 0 there (omega arith) in
      absurd (other k some few (sym (marked_at (codes "fmt ") s k is few) ∙ first))
  | inr missing ↦ missing
]

-- a format by what is read of its head
abbrev judge : Bool → ℕ → Bool → List ℕ → List ℕ → Option Found
judge named len whole rest body =
    cond (named && nat_le 16 len && whole) (option_map (λ (params : Parameters). record { params = params; rest = rest }) (fixed_format (format_of (take 64 body)))) None

-- no head begins in the last seven bytes
pub no_room : (p : ℕ) (d : List ℕ) → length d < p + 8 → format_here (drop p d) ≡ None
no_room p d short =
    none_unless_last (begins (codes "fmt ") (drop p d)) _ _ _ (lt-leb (8 + stated_size (drop p d)) (length (drop p d)) (omega (arith, short, length-drop p d)))

-- the head that begins at a place, by its 8 bytes
module _ (p size : ℕ) (d h : List ℕ) (is : h ≡ take 8 (drop p d)) (long : length d ≡ size) (fits : p + 8 ≤ size) where
  size_is : stated_size h ≡ stated_size (drop p d)
  size_is =
      ap (λ (l : List ℕ). number Little l 4 4) is
      ∙ number_same Little 4 4 4 (take 8 (drop p d)) (drop p d) (λ i q r lt qe re. rw (qe, re) (get_or-take 8 (drop p d) (4 + i) 0 (omega arith)))

  named_is : begins (codes "fmt ") h ≡ begins (codes "fmt ") (drop p d)
  named_is = begins_same (codes "fmt ") h (drop p d) (ap (λ (l : List ℕ). take 4 l) is ∙ take_take 4 8 (drop p d) (omega arith))

  of_head : format_here (drop p d) ≡ judge (begins (codes "fmt ") h) (stated_size h) (nat_le (stated_size h) (size - (p + 8))) (drop (p + 8 + stated_size h) d) (take (stated_size h) (drop (p + 8) d))
  of_head =
      let n = stated_size h in
      let s = drop p d in
      let whole : nat_le (8 + n) (length s) ≡ nat_le n (size - (p + 8)) =
      same_test (8 + n) (length s) n (size - (p + 8)) (λ le. omega (arith, le, long, fits, length-drop p d)) (λ le. omega (arith, le, long, fits, length-drop p d)) in
      let rest : drop (8 + n) s ≡ drop (p + 8 + n) d = drop_drop (8 + n) p d ∙ ap (λ (k : ℕ). drop k d) (omega arith) in
      ap (λ (m : ℕ). judge (begins (codes "fmt ") s) m (nat_le (8 + m) (length s)) (drop (8 + m) s) (take m (drop 8 s))) (sym size_is)
      ∙ ap (λ (w : Bool). judge w n (nat_le (8 + n) (length s)) (drop (8 + n) s) (take n (drop 8 s))) (sym named_is)
      ∙ ap (λ (w : Bool). judge (begins (codes "fmt ") h) n w (drop (8 + n) s) (take n (drop 8 s))) whole
      ∙ ap (λ (l : List ℕ). judge (begins (codes "fmt ") h) n (nat_le n (size - (p + 8))) l (take n (drop 8 s))) rest
      ∙ ap (λ (l : List ℕ). judge (begins (codes "fmt ") h) n (nat_le n (size - (p + 8))) (drop (p + 8 + n) d) (take n l)) (drop_drop 8 p d)

  pub not_there : None ≡ body_len (size - (p + 8)) h → format_here (drop p d) ≡ None
  not_there none = of_head ∙ both_none (begins (codes "fmt ") h && nat_le 16 (stated_size h) && nat_le (stated_size h) (size - (p + 8))) (stated_size h) _ none

  pub states : (n : ℕ) → Some n ≡ body_len (size - (p + 8)) h
      → format_here (drop p d) ≡ option_map (λ (params : Parameters). record { params = params; rest = drop (p + 8 + n) d }) (fixed_format (format_of (take 64 (take n (drop (p + 8) d)))))
  states n some =
      let both = both_some (begins (codes "fmt ") h && nat_le 16 (stated_size h) && nat_le (stated_size h) (size - (p + 8))) n (stated_size h)
      (option_map (λ (params : Parameters). record { params = params; rest = drop (p + 8 + stated_size h) d }) (fixed_format (format_of (take 64 (take (stated_size h) (drop (p + 8) d)))))) some in
      of_head ∙ both.1
      ∙ ap (λ (m : ℕ). option_map (λ (params : Parameters). record { params = params; rest = drop (p + 8 + m) d }) (fixed_format (format_of (take 64 (take m (drop (p + 8) d)))))) (sym both.0)

  pub states_by : (n : ℕ) (body : List ℕ) (params : Option Parameters) → Some n ≡ body_len (size - (p + 8)) h → params ≡ fixed_format (format_of (take 64 body)) → body ≡ take n (drop (p + 8) d)
      → format_here (drop p d) ≡ option_map (λ (params : Parameters). record { params = params; rest = drop (p + 8 + n) d }) params
  states_by n body params some read same =
      states n some
      ∙ ap (λ (l : List ℕ). option_map (λ (params : Parameters). record { params = params; rest = drop (p + 8 + n) d }) (fixed_format (format_of (take 64 l)))) (sym same)
      ∙ ap (λ (o : Option Parameters). option_map (λ (params : Parameters). record { params = params; rest = drop (p + 8 + n) d }) o) (sym read)

-- ---- data

pub no_data : (s : List ℕ) → begins (codes "data") s ≡ false → data_here s ≡ None
no_data s is = none_unless_one (begins (codes "data") s) _ _ is

pub cut_data : (s : List ℕ) → length s < 8 → data_here s ≡ None
cut_data s short = none_unless_both (begins (codes "data") s) _ _ (lt-leb 8 (length s) short)

pub data_is : (s : List ℕ) → begins (codes "data") s ≡ true → 8 ≤ length s → data_here s ≡ Some (drop 8 s)
data_is s is long = given_if_both (begins (codes "data") s) _ _ is (le-leb 8 (length s) long)
