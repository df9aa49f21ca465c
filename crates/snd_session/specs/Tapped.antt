-- The taps of a session: by what each boxed tap stands for.
use Rattle.std.specs.Prelude.{List}
use Rattle.snd_meters.specs.Gauge.{Gauge}
use Rattle.snd_meters.specs.Slots.{gauges}
use Rattle.snd_meters.specs.declared.meters.Meters.{Meters}
use Rattle.snd_session.specs.declared.session.Session.{Session}
use Rattle.snd_taps.specs.Meter.{Meter}

-- a boxed tap: its type, and a value of that
abbrev pub TapMeter : (V : Type 0) (Z : V → Type 0) → Type 0
TapMeter V Z = ((v : V) × Z v) → Meter

abbrev pub meter_taps : {V : Type 0} {Z : V → Type 0} → TapMeter V Z → Meters V Z → List Gauge
meter_taps meter m = gauges (λ s. meter (s.tap.vtable, s.tap.value)) m

abbrev pub session_taps : {V : Type 0} {Z : V → Type 0} → TapMeter V Z → Session V Z → List Gauge
session_taps meter s = meter_taps meter s.meters
