-- The codec and the parameters of a file that is made like another.
use Rattle.std.specs.Prelude.{ℕ, Result, Ok, Err}
use Rattle.snd_layout.specs.Fit.{fit_refusal}
use Rattle.snd_layout.specs.Params.{Parameters, params_of}
use Rattle.snd_layout.specs.Refusals.{unless}
use Rattle.snd_layout.specs.declared.codec.Codec.{Codec}
use Rattle.snd_layout.specs.declared.codec.Codec.TheVariants.{Ima, Ms}
use Rattle.snd_layout.specs.declared.kind.Kind.{Kind}
use Rattle.snd_layout.specs.declared.refusal.OpenRefusal.{OpenRefusal}
use Rattle.snd_edits.specs.Blocks.{ima_made, ms_made}

-- with so many channels and such a rate: the same, but that blocks of ADPCM have the size that this library gives them
abbrev pub codec_like : ℕ → ℕ → Codec → Codec
codec_like channels rate (Ima align per_block) = ima_made channels rate
codec_like channels rate (Ms align per_block) = ms_made channels rate
codec_like channels rate codec = codec

-- parameters that a kind holds
abbrev pub fitting : Kind → Result Parameters OpenRefusal → Result Parameters OpenRefusal
fitting kind (Err why) = Err why
fitting kind (Ok p) = unless (fit_refusal kind p) p

-- those of a file of a kind with so many channels that is made like one with others
abbrev pub params_like : Kind → ℕ → Parameters → Result Parameters OpenRefusal
params_like kind channels p = fitting kind (params_of channels p.rate (codec_like channels p.rate p.codec))
