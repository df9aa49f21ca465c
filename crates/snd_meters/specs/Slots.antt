-- What the slots of a session's taps stand for.
use Rattle.std.specs.Prelude.{◌≡◌, List, map}
use Rattle.snd_taps.specs.Meter.{Meter}
use Rattle.snd_meters.specs.declared.slot.Slot.{Slot}
use Rattle.snd_meters.specs.declared.meters.Meters.{Meters}
use Rattle.snd_meters.specs.Gauge.{Gauge, gauge_of}

-- by the meter of the tap in it
abbrev pub gauge : {V : Type 0} {Z : V → Type 0} → (Slot V Z → Meter) → Slot V Z → Gauge
gauge meter_of s = gauge_of s.is_on (meter_of s)

abbrev pub gauges : {V : Type 0} {Z : V → Type 0} → (Slot V Z → Meter) → Meters V Z → List Gauge
gauges meter_of m = map (gauge meter_of) m.slots.items

-- what the list is turned into
abbrev pub Become : {V : Type 0} {Z : V → Type 0} → (Slot V Z → Meter) → (List Gauge → List Gauge) → Meters V Z → Meters V Z → Type 0
Become meter_of change old new = gauges meter_of new ≡ change (gauges meter_of old)
