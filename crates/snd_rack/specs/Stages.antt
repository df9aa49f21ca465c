-- What each of the stages holds.
use Rattle.snd_rack.specs.Held.{Held}
use Rattle.snd_rack.specs.Stage.{Stated}
use Rattle.snd_rack.specs.declared.gain.Gain.{Gain}
use Rattle.snd_rack.specs.declared.invert.Invert.{Invert}
use Rattle.snd_rack.specs.declared.pick.Pick.{Pick}
use Rattle.snd_rack.specs.declared.fade.Fade.{Fade}
use Rattle.snd_rack.specs.declared.setting.StageKind.TheVariants as kind

abbrev pub gain_held : Gain → Held
gain_held s = record { kind = kind.Gain; stated = Stated.gain s.a s.b; low = s.low; high = s.high; seen = s.seen }

abbrev pub invert_held : Invert → Held
invert_held s = record { kind = kind.Invert; stated = Stated.invert; low = s.low; high = s.high; seen = s.seen }

abbrev pub pick_held : Pick → Held
pick_held s = record { kind = kind.Pick; stated = Stated.pick s.places.items; low = s.low; high = s.high; seen = s.seen }

abbrev pub fade_held : Fade → Held
fade_held s = record { kind = kind.Fade; stated = Stated.fade s.count; low = s.low; high = s.high; seen = s.seen }
