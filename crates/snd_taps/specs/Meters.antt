-- What each of the taps stands for.
use Rattle.snd_taps.specs.Meter.{Meter}
use Rattle.snd_taps.specs.declared.peak_tap.Peak.{Peak}
use Rattle.snd_taps.specs.declared.clips_tap.Clips.{Clips}
use Rattle.snd_taps.specs.declared.energy_tap.Energy.{Energy}
use Rattle.snd_taps.specs.declared.tap.TapKind.TheVariants.{Peak as peak_kind, Clips as clips_kind, Energy as energy_kind}

abbrev pub peak_meter : Peak → Meter
peak_meter p = record { kind = peak_kind; low = p.low; high = p.high; state = p.state }

abbrev pub clips_meter : Clips → Meter
clips_meter p = record { kind = clips_kind; low = p.low; high = p.high; state = p.state }

abbrev pub energy_meter : Energy → Meter
energy_meter p = record { kind = energy_kind; low = p.low; high = p.high; state = p.state }
