-- One tap of a session.
use Rattle.std.specs.Prelude.{ℤ, List, Bool, true, false}
use Rattle.snd_taps.specs.declared.tap.TapKind.{TapKind}
use Rattle.snd_taps.specs.declared.tap.TapKind.TheVariants.{Peak, Clips, Energy}
use Rattle.snd_taps.specs.Meter.{Meter, idle, started, after_frames}

-- it waits, and of it only the kind counts, or it is on
pub data Gauge : Type 0 where
  waiting : TapKind → Gauge
  on : Meter → Gauge

abbrev pub gauge_of : Bool → Meter → Gauge
gauge_of true m = on m
gauge_of false m = waiting m.kind

abbrev pub same_kind : TapKind → TapKind → Bool
same_kind Peak Peak = true
same_kind Clips Clips = true
same_kind Energy Energy = true
same_kind _ _ = false

abbrev pub is_waiting : TapKind → Gauge → Bool
is_waiting kind (waiting other) = same_kind kind other
is_waiting kind (on m) = false

abbrev pub is_on : TapKind → Gauge → Bool
is_on kind (waiting other) = false
is_on kind (on m) = same_kind kind m.kind

-- one of the kind that is on, or one that waits
abbrev pub stands : Bool → TapKind → Gauge → Bool
stands true kind gauge = is_on kind gauge
stands false kind gauge = is_waiting kind gauge

-- on, with no frame fed
abbrev pub started_gauge : ℤ → ℤ → Gauge → Gauge
started_gauge low high (waiting kind) = on (started low high (idle kind))
started_gauge low high (on m) = on (started low high m)

abbrev pub fed_gauge : List (List ℤ) → Gauge → Gauge
fed_gauge frames (waiting kind) = waiting kind
fed_gauge frames (on m) = on (after_frames frames m)

abbrev pub rested_gauge : Gauge → Gauge
rested_gauge (waiting kind) = waiting kind
rested_gauge (on m) = waiting m.kind
