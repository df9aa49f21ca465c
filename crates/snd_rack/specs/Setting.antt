-- What a setting of the code says.
use Rattle.snd_rack.specs.declared.setting.Setting.{Setting}
use Rattle.snd_rack.specs.declared.setting.Setting.TheVariants as set
use Rattle.snd_rack.specs.Stage.{Stated}

abbrev pub stated : Setting → Stated
stated (set.Gain a b) = Stated.gain a b
stated set.Invert = Stated.invert
stated (set.Pick places) = Stated.pick places.items
stated (set.Fade count) = Stated.fade count
