-- The words of the kinds.
use Rattle.std.specs.Prelude.{ℕ, List, codes}
use Rattle.snd_taps.specs.declared.tap.TapKind.{TapKind}
use Rattle.snd_taps.specs.declared.tap.TapKind.TheVariants.{Peak, Clips, Energy}

abbrev pub tap_name : TapKind → List ℕ
tap_name Peak = codes "peak"
tap_name Clips = codes "clips"
tap_name Energy = codes "energy"
