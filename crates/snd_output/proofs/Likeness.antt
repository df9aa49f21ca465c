-- Parameters that are not refused are those that were asked for.
use Rattle.std.proofs.Common.{◌≡◌, ap, ℕ, Option, None, Some, Ok, Err, Result}
use Rattle.snd_layout.specs.Fit.{fit_refusal}
use Rattle.snd_layout.specs.Params.{Parameters, params_of, params_refusal}
use Rattle.snd_layout.specs.Refusals.{unless}
use Rattle.snd_layout.specs.declared.codec.Codec.{Codec}
use Rattle.snd_layout.specs.declared.kind.Kind.{Kind}
use Rattle.snd_layout.specs.declared.refusal.OpenRefusal.{OpenRefusal}
use Rattle.snd_output.specs.Codecs.{codec_like, fitting, params_like}

not_refused : (o : Option OpenRefusal) (q p : Parameters) → Ok p ≡ unless o q → p ≡ q
not_refused None q p is = cc
not_refused (Some why) q p is = absurd (cc)

pub same_channels : (channels rate : ℕ) (codec : Codec) (p : Parameters) → Ok p ≡ params_of channels rate codec → p.channels ≡ channels
same_channels channels rate codec p is = let e = not_refused (params_refusal channels rate codec) (record { channels = channels; rate = rate; codec = codec }) p is in cc

fitting_is : (kind : Kind) (r : Result Parameters OpenRefusal) (p : Parameters) → Ok p ≡ fitting kind r → Ok p ≡ r
fitting_is kind (Err why) p is = absurd (cc)
fitting_is kind (Ok q) p is = ap (λ (x : Parameters). Ok x) (not_refused (fit_refusal kind q) q p is)

pub like_is : (kind : Kind) (channels : ℕ) (like p : Parameters) → Ok p ≡ params_like kind channels like → p ≡ record { channels = channels; rate = like.rate; codec = codec_like channels like.rate like.codec }
like_is kind channels like p is =
    let codec = codec_like channels like.rate like.codec in
    not_refused (params_refusal channels like.rate codec) (record { channels = channels; rate = like.rate; codec = codec }) p (fitting_is kind (params_of channels like.rate codec) p is)
