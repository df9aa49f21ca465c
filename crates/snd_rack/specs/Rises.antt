-- A rise by itself, whose frames need no range.
use Rattle.std.specs.Prelude.{ℕ, pos}
use Rattle.snd_rack.specs.Held.{Held}
use Rattle.snd_rack.specs.Stage.{Stated}
use Rattle.snd_rack.specs.declared.setting.StageKind.TheVariants as kind

-- one over so many frames, of which so many have passed
abbrev pub fade_from : ℕ → ℕ → Held
fade_from count seen = record { kind = kind.Fade; stated = Stated.fade count; low = pos 0; high = pos 0; seen = seen }
