-- What holds of the taps of a session at all times.
use Rattle.std.specs.Prelude.{◌≡◌, ℤ, ◌≤◌, List, count_by}
use Rattle.snd_taps.specs.declared.tap.TapKind.{TapKind}
use Rattle.snd_meters.specs.Gauge.{Gauge, is_on}
use Rattle.snd_meters.specs.Gauges.{after_start, after_stop, after_feed, after_rest}

-- of each kind at most one is on
abbrev pub IsOneOfAKind : List Gauge → Type 0
IsOneOfAKind gauges = (kind : TapKind) → count_by (is_on kind) gauges ≤ 1

abbrev pub StartKeepsOne : Type 0
StartKeepsOne = (kind : TapKind) (low high : ℤ) (gauges : List Gauge) → IsOneOfAKind gauges → IsOneOfAKind (after_start kind low high gauges)

abbrev pub StopKeepsOne : Type 0
StopKeepsOne = (kind : TapKind) (gauges : List Gauge) → IsOneOfAKind gauges → IsOneOfAKind (after_stop kind gauges)

abbrev pub FeedKeepsOne : Type 0
FeedKeepsOne = (frames : List (List ℤ)) (gauges : List Gauge) → IsOneOfAKind gauges → IsOneOfAKind (after_feed frames gauges)

abbrev pub NoneAfterRest : Type 0
NoneAfterRest = (kind : TapKind) (gauges : List Gauge) → count_by (is_on kind) (after_rest gauges) ≡ 0
