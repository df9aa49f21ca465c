-- The taps of a session, in their order. One that was dropped is in the list no more.
use Rattle.std.specs.Prelude.{ℤ, List, [], ◌∷◌, Bool, if◌then◌else◌, map, Result, Ok, Err}
use Rattle.std.specs.List.{list_any}
use Rattle.snd_taps.specs.declared.tap.TapKind.{TapKind}
use Rattle.snd_taps.specs.declared.tap.TapState.{TapState}
use Rattle.snd_lines.specs.declared.refusal.Refusal.{Refusal}
use Rattle.snd_lines.specs.declared.refusal.Refusal.TheVariants.{TapOn, NoSuchTap}
use Rattle.snd_meters.specs.Gauge.{Gauge, waiting, on, same_kind, is_waiting, is_on, started_gauge, fed_gauge, rested_gauge}

-- the first that passes the test is changed
abbrev pub first_changed : {X : Type 0} → (X → Bool) → (X → X) → List X → List X
first_changed p f [] = []
first_changed p f (x ∷ xs) = if p x then f x ∷ xs else x ∷ first_changed p f xs

-- the first that passes the test is gone
abbrev pub without_first : {X : Type 0} → (X → Bool) → List X → List X
without_first p [] = []
without_first p (x ∷ xs) = if p x then xs else x ∷ without_first p xs

-- at most one of a kind is on, and that is judged first
abbrev pub start_answer : TapKind → List Gauge → Result (Unit {0}) Refusal
start_answer kind gauges =
    if list_any (is_on kind) gauges then Err TapOn else (if list_any (is_waiting kind) gauges then Ok tt else Err NoSuchTap)

abbrev pub after_start : TapKind → ℤ → ℤ → List Gauge → List Gauge
after_start kind low high gauges =
    if list_any (is_on kind) gauges then gauges else first_changed (is_waiting kind) (started_gauge low high) gauges

-- the report of the one that is on
abbrev pub stop_answer : TapKind → List Gauge → Result TapState Refusal
stop_answer kind [] = Err NoSuchTap
stop_answer kind (waiting _ ∷ gauges) = stop_answer kind gauges
stop_answer kind (on m ∷ gauges) = if same_kind kind m.kind then Ok m.state else stop_answer kind gauges

abbrev pub after_stop : TapKind → List Gauge → List Gauge
after_stop kind gauges = without_first (is_on kind) gauges

abbrev pub after_feed : List (List ℤ) → List Gauge → List Gauge
after_feed frames gauges = map (fed_gauge frames) gauges

-- those that are on wait again, at their old places
abbrev pub after_rest : List Gauge → List Gauge
after_rest gauges = map rested_gauge gauges
