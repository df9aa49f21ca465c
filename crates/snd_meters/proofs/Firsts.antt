-- The first of a list that passes a test.
use Rattle.std.proofs.Common.{◌≡◌, ℕ, zero, suc, ℤ, Bool, true, false, ◌||◌, if◌then◌else◌, List, [], ◌∷◌, map, get_or, set, Ok, Err, refl, sym, ◌∙◌, ap, arith}
use Rattle.std.specs.List.{list_any, remove}
use Rattle.std.proofs.lemmas.List.{get_or_read}
use Rattle.snd_taps.specs.declared.tap.TapKind.{TapKind}
use Rattle.snd_taps.specs.Meter.{Meter}
use Rattle.snd_lines.specs.declared.refusal.Refusal.TheVariants.{TapOn, NoSuchTap}
use Rattle.snd_meters.specs.First.{IsFirst}
use Rattle.snd_meters.specs.Gauge.{Gauge, waiting, on, gauge_of, is_on, is_waiting, started_gauge}
use Rattle.snd_meters.specs.Gauges.{first_changed, without_first, start_answer, after_start, stop_answer, after_stop}

pub or_left : (a b : Bool) → (a || b) ≡ false → a ≡ false
or_left true b h = h
or_left false b h = refl

pub or_right : (a b : Bool) → (a || b) ≡ false → b ≡ false
or_right true b h = cc
or_right false b h = h

behind : {X : Type 0} (p : X → Bool) (x : X) (xs : List X) (i : ℕ) → IsFirst p (x ∷ xs) (suc i) → IsFirst p xs i
behind p x xs i first = record { within = omega (arith, first.within); passes = first.passes; before = or_right (p x) _ first.before }

changed_none : {X : Type 0} (p : X → Bool) (f : X → X) (xs : List X) → list_any p xs ≡ false → first_changed p f xs ≡ xs
changed_none p f [] none = refl
changed_none p f (x ∷ xs) none =
    ap (λ b. if b then f x ∷ xs else x ∷ first_changed p f xs) (or_left (p x) _ none) ∙ ap (λ l. x ∷ l) (changed_none p f xs (or_right (p x) _ none))

without_none : {X : Type 0} (p : X → Bool) (xs : List X) → list_any p xs ≡ false → without_first p xs ≡ xs
without_none p [] none = refl
without_none p (x ∷ xs) none =
    ap (λ b. if b then xs else x ∷ without_first p xs) (or_left (p x) _ none) ∙ ap (λ l. x ∷ l) (without_none p xs (or_right (p x) _ none))

module _ {X Y : Type 0} (g : X → Y) (p : Y → Bool) where
  any_is : (xs : List X) → list_any p (map g xs) ≡ list_any (λ x. p (g x)) xs
  any_is [] = refl
  any_is (x ∷ xs) = ap (λ b. p (g x) || b) (any_is xs)

  any_first : (xs : List X) (i : ℕ) → IsFirst (λ x. p (g x)) xs i → list_any p (map g xs) ≡ true
  any_first [] i first = absurd (omega (arith, first.within))
  any_first (x ∷ xs) zero first = ap (λ b. b || list_any p (map g xs)) (first.passes x)
  any_first (x ∷ xs) (suc i) first =
      ap (λ b. b || list_any p (map g xs)) (or_left (p (g x)) _ first.before) ∙ any_first xs i (behind (λ x. p (g x)) x xs i first)

  changed_first : (f : Y → Y) (xs : List X) (i : ℕ) (y : X) → IsFirst (λ x. p (g x)) xs i → g y ≡ f (g (get_or xs i y))
      → first_changed p f (map g xs) ≡ map g (set xs i y)
  changed_first f [] i y first is = absurd (omega (arith, first.within))
  changed_first f (x ∷ xs) zero y first is =
      ap (λ b. if b then f (g x) ∷ map g xs else g x ∷ first_changed p f (map g xs)) (first.passes x) ∙ ap (λ z. z ∷ map g xs) (sym is)
  changed_first f (x ∷ xs) (suc i) y first is =
      ap (λ b. if b then f (g x) ∷ map g xs else g x ∷ first_changed p f (map g xs)) (or_left (p (g x)) _ first.before)
      ∙ ap (λ l. g x ∷ l) (changed_first f xs i y (behind (λ x. p (g x)) x xs i first) is)

  without_at : (xs : List X) (i : ℕ) → IsFirst (λ x. p (g x)) xs i → without_first p (map g xs) ≡ map g (remove xs i)
  without_at [] i first = absurd (omega (arith, first.within))
  without_at (x ∷ xs) zero first = ap (λ b. if b then map g xs else g x ∷ without_first p (map g xs)) (first.passes x)
  without_at (x ∷ xs) (suc i) first =
      ap (λ b. if b then map g xs else g x ∷ without_first p (map g xs)) (or_left (p (g x)) _ first.before)
      ∙ ap (λ l. g x ∷ l) (without_at xs i (behind (λ x. p (g x)) x xs i first))

pub is_on_meter : (kind : TapKind) (b : Bool) (m : Meter) → is_on kind (gauge_of b m) ≡ true → gauge_of b m ≡ on m
is_on_meter kind true m h = refl
is_on_meter kind false m h = cc

not_this : (kind : TapKind) (v : Gauge) (gs : List Gauge) → is_on kind v ≡ false → stop_answer kind (v ∷ gs) ≡ stop_answer kind gs
not_this kind (waiting k) gs h = refl
not_this kind (on m) gs h = ap (λ b. if b then Ok m.state else stop_answer kind gs) h

this_one : (kind : TapKind) (v : Gauge) (m : Meter) (gs : List Gauge) → v ≡ on m → is_on kind v ≡ true → stop_answer kind (v ∷ gs) ≡ Ok m.state
this_one kind v m gs is h =
    ap (λ v. stop_answer kind (v ∷ gs)) is ∙ ap (λ b. if b then Ok m.state else stop_answer kind gs) (sym (ap (is_on kind) is) ∙ h)

stop_none : (kind : TapKind) (gs : List Gauge) → list_any (is_on kind) gs ≡ false → stop_answer kind gs ≡ Err NoSuchTap
stop_none kind [] none = refl
stop_none kind (v ∷ gs) none = not_this kind v gs (or_left (is_on kind v) _ none) ∙ stop_none kind gs (or_right (is_on kind v) _ none)

stop_first : {X : Type 0} (g : X → Gauge) (kind : TapKind) (xs : List X) (i : ℕ) (d : X) (m : Meter) → IsFirst (λ x. is_on kind (g x)) xs i
    → g (get_or xs i d) ≡ on m → stop_answer kind (map g xs) ≡ Ok m.state
stop_first g kind [] i d m first is = absurd (omega (arith, first.within))
stop_first g kind (x ∷ xs) zero d m first is = this_one kind (g x) m (map g xs) is (first.passes d)
stop_first g kind (x ∷ xs) (suc i) d m first is =
    not_this kind (g x) (map g xs) (or_left (is_on kind (g x)) _ first.before) ∙ stop_first g kind xs i d m (behind (λ x. is_on kind (g x)) x xs i first) is

start_on : (kind : TapKind) (gs : List Gauge) → list_any (is_on kind) gs ≡ true → start_answer kind gs ≡ Err TapOn
start_on kind gs h = ap (λ b. if b then Err TapOn else (if list_any (is_waiting kind) gs then Ok tt else Err NoSuchTap)) h

start_off : (kind : TapKind) (gs : List Gauge) → list_any (is_on kind) gs ≡ false → start_answer kind gs ≡ (if list_any (is_waiting kind) gs then Ok tt else Err NoSuchTap)
start_off kind gs h = ap (λ b. if b then Err TapOn else (if list_any (is_waiting kind) gs then Ok tt else Err NoSuchTap)) h

after_on : (kind : TapKind) (low high : ℤ) (gs : List Gauge) → list_any (is_on kind) gs ≡ true → after_start kind low high gs ≡ gs
after_on kind low high gs h = ap (λ b. if b then gs else first_changed (is_waiting kind) (started_gauge low high) gs) h

after_off : (kind : TapKind) (low high : ℤ) (gs : List Gauge) → list_any (is_on kind) gs ≡ false
    → after_start kind low high gs ≡ first_changed (is_waiting kind) (started_gauge low high) gs
after_off kind low high gs h = ap (λ b. if b then gs else first_changed (is_waiting kind) (started_gauge low high) gs) h

-- what each call answers and leaves, by what was found
module _ {X : Type 0} (g : X → Gauge) (kind : TapKind) (xs : List X) where
  pub stop_missing : list_any (λ x. is_on kind (g x)) xs ≡ false → stop_answer kind (map g xs) ≡ Err NoSuchTap
  stop_missing none = stop_none kind (map g xs) (any_is g (is_on kind) xs ∙ none)

  pub stopped_missing : list_any (λ x. is_on kind (g x)) xs ≡ false → after_stop kind (map g xs) ≡ map g xs
  stopped_missing none = without_none (is_on kind) (map g xs) (any_is g (is_on kind) xs ∙ none)

  pub stop_found : (i : ℕ) (x : X) (m : Meter) → IsFirst (λ x. is_on kind (g x)) xs i → x ≡ get_or xs i x
      → (is_on kind (g x) ≡ true → g x ≡ on m) → stop_answer kind (map g xs) ≡ Ok m.state
  stop_found i x m first here is =
      stop_first g kind xs i x m first (sym (ap g here) ∙ is (ap (λ s. is_on kind (g s)) here ∙ first.passes x))

  pub stopped_found : (i : ℕ) → IsFirst (λ x. is_on kind (g x)) xs i → after_stop kind (map g xs) ≡ map g (remove xs i)
  stopped_found i first = without_at g (is_on kind) xs i first

  pub start_taken : (i : ℕ) → IsFirst (λ x. is_on kind (g x)) xs i → start_answer kind (map g xs) ≡ Err TapOn
  start_taken i first = start_on kind (map g xs) (any_first g (is_on kind) xs i first)

  pub start_missing : list_any (λ x. is_on kind (g x)) xs ≡ false → list_any (λ x. is_waiting kind (g x)) xs ≡ false
      → start_answer kind (map g xs) ≡ Err NoSuchTap
  start_missing off none =
      start_off kind (map g xs) (any_is g (is_on kind) xs ∙ off) ∙ ap (λ b. if b then Ok tt else Err NoSuchTap) (any_is g (is_waiting kind) xs ∙ none)

  pub start_found : (i : ℕ) → list_any (λ x. is_on kind (g x)) xs ≡ false → IsFirst (λ x. is_waiting kind (g x)) xs i
      → start_answer kind (map g xs) ≡ Ok tt
  start_found i off first =
      start_off kind (map g xs) (any_is g (is_on kind) xs ∙ off) ∙ ap (λ b. if b then Ok tt else Err NoSuchTap) (any_first g (is_waiting kind) xs i first)

  pub started_taken : (low high : ℤ) (i : ℕ) → IsFirst (λ x. is_on kind (g x)) xs i → after_start kind low high (map g xs) ≡ map g xs
  started_taken low high i first = after_on kind low high (map g xs) (any_first g (is_on kind) xs i first)

  pub started_missing : (low high : ℤ) → list_any (λ x. is_on kind (g x)) xs ≡ false → list_any (λ x. is_waiting kind (g x)) xs ≡ false
      → after_start kind low high (map g xs) ≡ map g xs
  started_missing low high off none =
      after_off kind low high (map g xs) (any_is g (is_on kind) xs ∙ off)
      ∙ changed_none (is_waiting kind) (started_gauge low high) (map g xs) (any_is g (is_waiting kind) xs ∙ none)

  pub started_found : (low high : ℤ) (i : ℕ) (x y : X) → list_any (λ x. is_on kind (g x)) xs ≡ false → IsFirst (λ x. is_waiting kind (g x)) xs i
      → x ≡ get_or xs i x → g y ≡ started_gauge low high (g x) → after_start kind low high (map g xs) ≡ map g (set xs i y)
  started_found low high i x y off first here is =
      after_off kind low high (map g xs) (any_is g (is_on kind) xs ∙ off)
      ∙ changed_first g (is_waiting kind) (started_gauge low high) xs i y first
      (is ∙ ap (λ s. started_gauge low high (g s)) (get_or_read xs i x first.within here y))
