-- What a file becomes that is converted: its kind and its parameters. These are this library's own rules.
use Rattle.std.specs.Prelude.{ℕ, Option, Some, None, Result, Ok, Err, unwrap_or, if◌then◌else◌}
use Rattle.snd_fields.specs.declared.field.Order.{Order}
use Rattle.snd_layout.specs.Fit.{fit_refusal}
use Rattle.snd_layout.specs.Kinds.{eight_bits, holds_order, kind_in, own_order}
use Rattle.snd_layout.specs.Params.{Parameters, params_of}
use Rattle.snd_layout.specs.declared.codec.Codec.{Codec}
use Rattle.snd_layout.specs.declared.codec.Codec.TheVariants as codec
use Rattle.snd_layout.specs.declared.kind.Kind.{Kind}
use Rattle.snd_layout.specs.declared.refusal.OpenRefusal.{OpenRefusal}
use Rattle.snd_layout.specs.declared.refusal.OpenRefusal.TheVariants.{BadPair}
use Rattle.snd_edits.specs.Blocks.{ima_made, ms_made}
use Rattle.snd_output.specs.Codecs.{codec_like}
use Rattle.snd_words.specs.Asked.{Converting}
use Rattle.snd_words.specs.declared.convert.CodecChoice.{CodecChoice}
use Rattle.snd_words.specs.declared.convert.CodecChoice.TheVariants as choice

-- the codec of the same class in a kind
abbrev pub same_class : Kind → Order → ℕ → ℕ → Codec → Codec
same_class kind order channels rate codec.U8 = eight_bits kind
same_class kind order channels rate codec.S8 = eight_bits kind
same_class kind order channels rate (codec.S16 from) = codec.S16 order
same_class kind order channels rate (codec.S24 from) = codec.S24 order
same_class kind order channels rate (codec.S32 from) = codec.S32 order
same_class kind order channels rate other = codec_like channels rate other

-- the codec that is asked for
abbrev pub chosen : Order → ℕ → ℕ → CodecChoice → Codec
chosen order channels rate choice.S8 = codec.S8
chosen order channels rate choice.U8 = codec.U8
chosen order channels rate choice.Pcm16 = codec.S16 order
chosen order channels rate choice.Pcm24 = codec.S24 order
chosen order channels rate choice.Pcm32 = codec.S32 order
chosen order channels rate choice.MuLaw = codec.MuLaw
chosen order channels rate choice.ALaw = codec.ALaw
chosen order channels rate choice.Ima = ima_made channels rate
chosen order channels rate choice.Ms = ms_made channels rate

-- .. or kept
abbrev pub codec_in : Option CodecChoice → Kind → Order → ℕ → ℕ → Codec → Codec
codec_in None kind order channels rate from = same_class kind order channels rate from
codec_in (Some asked) kind order channels rate from = chosen order channels rate asked

-- what is made: a kind with its parameters
pub record Planned : Type 0 where
  pub kind : Kind
  pub params : Parameters

-- it is refused by the parameters, then by the kind, and then by the order
abbrev pub fitting : Kind → Option Order → Parameters → Option OpenRefusal → Result Planned OpenRefusal
fitting kind order p (Some why) = Err why
fitting kind order p None = if holds_order kind order then Ok (record { kind = kind; params = p }) else Err BadPair

abbrev pub fitted : Kind → Option Order → Result Parameters OpenRefusal → Result Planned OpenRefusal
fitted kind order (Err why) = Err why
fitted kind order (Ok p) = fitting kind order p (fit_refusal kind p)

abbrev pub planned_as : Converting → Kind → ℕ → Parameters → Result Planned OpenRefusal
planned_as c kind channels from =
    let rate = unwrap_or c.rate from.rate in
    fitted kind c.order (params_of channels rate (codec_in c.codec kind (unwrap_or c.order (own_order kind)) channels rate from.codec))

-- what a file with these parameters becomes, with so many channels, or why it does not
unfoldable pub planned : Converting → Kind → ℕ → Parameters → Result Planned OpenRefusal
planned c kind channels from = planned_as c (kind_in c.order kind) channels from
