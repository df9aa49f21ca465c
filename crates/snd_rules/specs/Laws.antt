-- What holds of every command on an open file.
use Rattle.std.specs.Prelude.{◌≡◌, ℤ, List, false, is_none}
use Rattle.snd_command.specs.Said.{Said}
use Rattle.snd_layout.specs.declared.codec.Codec.{Codec}
use Rattle.snd_meters.specs.Gauge.{Gauge}
use Rattle.snd_rules.specs.Desk.{Mode}
use Rattle.snd_rules.specs.Rules.{Grounds, rule_of}

-- one that is refused changes no tap
abbrev pub RefusedLeavesTaps : Type 0
RefusedLeavesTaps = (mode : Mode) (taps : List Gauge) (said : Said) (g : Grounds) (codec : Codec) (frames : List (List ℤ)) →
    is_none ((rule_of mode taps said).refusal g) ≡ false → (rule_of mode taps said).taps codec frames taps ≡ taps
