-- The taps of a run.
use Rattle.std.specs.Prelude.{List}
use Rattle.snd_meters.specs.Gauge.{Gauge}
use Rattle.snd_script.specs.declared.run.Run.{Run}
use Rattle.snd_session.specs.Tapped.{TapMeter, session_taps}

abbrev pub taps_of : {V : Type 0} {Z : V → Type 0} → TapMeter V Z → Run V Z → List Gauge
taps_of meter run = session_taps meter run.session
