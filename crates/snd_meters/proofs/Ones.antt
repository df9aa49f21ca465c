-- Of each kind at most one is on.
use Rattle.std.proofs.Common.{◌≡◌, ℕ, ℤ, ◌+◌, ◌≤◌, Bool, true, false, cond, if◌then◌else◌, List, [], ◌∷◌, map, refl, sym, ◌∙◌, ap, arith}
use Rattle.std.specs.Prelude.{count_by}
use Rattle.std.specs.List.{list_any}
use Rattle.std.proofs.lemmas.List.Sums.{sum_by-cons}
use Rattle.snd_taps.specs.declared.tap.TapKind.{TapKind}
use Rattle.snd_taps.specs.declared.tap.TapKind.TheVariants.{Peak, Clips, Energy}
use Rattle.snd_meters.specs.Gauge.{Gauge, waiting, on, same_kind, is_on, is_waiting, started_gauge, fed_gauge, rested_gauge}
use Rattle.snd_meters.specs.Gauges.{first_changed, without_first, after_rest}
use Rattle.snd_meters.specs.Laws.{StartKeepsOne, StopKeepsOne, FeedKeepsOne, NoneAfterRest}
use Rattle.snd_meters.proofs.Firsts.{or_left, or_right}

-- what an element adds to a count
abbrev one : Bool → ℕ
one b = cond b 1 0

one_more : {X : Type 0} (p : X → Bool) (x : X) (xs : List X) → count_by p (x ∷ xs) ≡ one (p x) + count_by p xs
one_more p x xs = sum_by-cons (λ x. one (p x)) x xs

kind_is : (a b : TapKind) → same_kind a b ≡ true → a ≡ b
kind_is Peak Peak h = refl
kind_is Peak Clips h = cc
kind_is Peak Energy h = cc
kind_is Clips Peak h = cc
kind_is Clips Clips h = refl
kind_is Clips Energy h = cc
kind_is Energy Peak h = cc
kind_is Energy Clips h = cc
kind_is Energy Energy h = refl

on_started : (other kind : TapKind) (low high : ℤ) (v : Gauge) → is_waiting kind v ≡ true → is_on other (started_gauge low high v) ≡ same_kind other kind
on_started other kind low high (waiting k) h = ap (same_kind other) (sym (kind_is kind k h))
on_started other kind low high (on m) h = cc

count_none : {X : Type 0} (p : X → Bool) (xs : List X) → list_any p xs ≡ false → count_by p xs ≡ 0
count_none p [] none = refl
count_none p (x ∷ xs) none =
    let here : one (p x) ≡ 0 = ap one (or_left (p x) _ none) in
    omega (arith, here, one_more p x xs, count_none p xs (or_right (p x) _ none))

module _ (other kind : TapKind) (low high : ℤ) where
  count_here : (v : Gauge) (gs : List Gauge) (b : Bool) → is_waiting kind v ≡ b
      → count_by (is_on other) (first_changed (is_waiting kind) (started_gauge low high) gs) ≤ count_by (is_on other) gs + cond (same_kind other kind) 1 0
      → count_by (is_on other) (if b then started_gauge low high v ∷ gs else v ∷ first_changed (is_waiting kind) (started_gauge low high) gs)
      ≤ count_by (is_on other) (v ∷ gs) + cond (same_kind other kind) 1 0
  count_here v gs true h rest =
      let is : one (is_on other (started_gauge low high v)) ≡ one (same_kind other kind) = ap one (on_started other kind low high v h) in
      let le : count_by (is_on other) (started_gauge low high v ∷ gs) ≤ count_by (is_on other) (v ∷ gs) + one (same_kind other kind)
      = omega (arith, is, one_more (is_on other) (started_gauge low high v) gs, one_more (is_on other) v gs) in
      le
  count_here v gs false h rest =
      let changed = first_changed (is_waiting kind) (started_gauge low high) gs in
      let le : count_by (is_on other) (v ∷ changed) ≤ count_by (is_on other) (v ∷ gs) + one (same_kind other kind)
      = omega (arith, rest, one_more (is_on other) v changed, one_more (is_on other) v gs) in
      le

  count_started : (gs : List Gauge)
      → count_by (is_on other) (first_changed (is_waiting kind) (started_gauge low high) gs) ≤ count_by (is_on other) gs + cond (same_kind other kind) 1 0
  count_started [] = omega arith
  count_started (v ∷ gs) = count_here v gs (is_waiting kind v) refl (count_started gs)

  of_the_kind : (gs : List Gauge) (b : Bool) → same_kind other kind ≡ b → list_any (is_on kind) gs ≡ false → count_by (is_on other) gs ≤ 1
      → count_by (is_on other) (first_changed (is_waiting kind) (started_gauge low high) gs) ≤ 1
  of_the_kind gs true same off le =
      let more : one (same_kind other kind) ≡ 1 = ap one same in
      omega (arith, count_started gs, more, ap (λ k. count_by (is_on k) gs) (kind_is other kind same) ∙ count_none (is_on kind) gs off)
  of_the_kind gs false same off le =
      let more : one (same_kind other kind) ≡ 0 = ap one same in
      omega (arith, count_started gs, more, le)

  start_at : (gs : List Gauge) (b : Bool) → list_any (is_on kind) gs ≡ b → count_by (is_on other) gs ≤ 1
      → count_by (is_on other) (if b then gs else first_changed (is_waiting kind) (started_gauge low high) gs) ≤ 1
  start_at gs true h le = le
  start_at gs false h le = of_the_kind gs (same_kind other kind) refl h le

pub start_keeps_one : StartKeepsOne
start_keeps_one kind low high gs single other = start_at other kind low high gs (list_any (is_on kind) gs) refl (single other)

if_gone : {X : Type 0} (q : X → Bool) (x : X) (xs ys : List X) (b : Bool) → count_by q ys ≤ count_by q xs → count_by q (if b then xs else x ∷ ys) ≤ count_by q (x ∷ xs)
if_gone q x xs ys true le = let more : count_by q xs ≤ count_by q (x ∷ xs) = omega (arith, one_more q x xs) in more
if_gone q x xs ys false le =
    let more : count_by q (x ∷ ys) ≤ count_by q (x ∷ xs) = omega (arith, le, one_more q x ys, one_more q x xs) in more

count_without : {X : Type 0} (q p : X → Bool) (xs : List X) → count_by q (without_first p xs) ≤ count_by q xs
count_without q p [] = omega arith
count_without q p (x ∷ xs) = if_gone q x xs (without_first p xs) (p x) (count_without q p xs)

pub stop_keeps_one : StopKeepsOne
stop_keeps_one kind gs single other = omega (arith, single other, count_without (is_on other) (is_on kind) gs)

on_fed : (other : TapKind) (frames : List (List ℤ)) (v : Gauge) → is_on other (fed_gauge frames v) ≡ is_on other v
on_fed other frames (waiting k) = refl
on_fed other frames (on m) = refl

count_fed : (other : TapKind) (frames : List (List ℤ)) (gs : List Gauge) → count_by (is_on other) (map (fed_gauge frames) gs) ≡ count_by (is_on other) gs
count_fed other frames [] = refl
count_fed other frames (v ∷ gs) =
    let here : one (is_on other (fed_gauge frames v)) ≡ one (is_on other v) = ap one (on_fed other frames v) in
    let fed = map (fed_gauge frames) gs in
    omega (arith, here, one_more (is_on other) (fed_gauge frames v) fed, one_more (is_on other) v gs, count_fed other frames gs)

pub feed_keeps_one : FeedKeepsOne
feed_keeps_one frames gs single other = omega (arith, single other, count_fed other frames gs)

on_rested : (other : TapKind) (v : Gauge) → is_on other (rested_gauge v) ≡ false
on_rested other (waiting k) = refl
on_rested other (on m) = refl

pub none_after_rest : NoneAfterRest
none_after_rest other [] = refl
none_after_rest other (v ∷ gs) =
    let here : one (is_on other (rested_gauge v)) ≡ 0 = ap one (on_rested other v) in
    omega (arith, here, one_more (is_on other) (rested_gauge v) (after_rest gs), none_after_rest other gs)
