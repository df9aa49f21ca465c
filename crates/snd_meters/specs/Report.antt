-- A report as it is printed.
use Rattle.std.specs.Prelude.{ℕ, List, ◌∷◌, ◌++◌, codes, decimal}
use Rattle.snd_lines.specs.Lines.{line}
use Rattle.snd_taps.specs.Names.{tap_name}
use Rattle.snd_taps.specs.declared.tap.TapKind.{TapKind}
use Rattle.snd_taps.specs.declared.tap.TapState.{TapState}

-- `ok`, the word of the kind, how many frames were fed, and what they measure
abbrev pub report_line : TapKind → TapState → List ℕ
report_line kind state = line (codes "ok") (tap_name kind ++ 32 ∷ decimal state.frames ++ 32 ∷ decimal state.value)
