-- Which kinds hold which parameters: this library's own profile of the containers.
use Rattle.std.specs.Prelude.{ℕ, ◌^◌, Bool, true, false, not, ◌&&◌, Option, [], ◌∷◌, nat_le, nat_lt}
use Rattle.snd_fields.specs.declared.field.Order.TheVariants.{Little, Big}
use Rattle.snd_layout.specs.declared.codec.Codec.{Codec}
use Rattle.snd_layout.specs.declared.codec.Codec.TheVariants.{U8, S8, S16, S24, S32, MuLaw, ALaw, Ima, Ms}
use Rattle.snd_layout.specs.declared.kind.Kind.{Kind}
use Rattle.snd_layout.specs.declared.kind.Kind.TheVariants.{Wave, Rf64, W64, Au, Dns, Voc, Svx, Sphere}
use Rattle.snd_layout.specs.declared.refusal.OpenRefusal.{OpenRefusal}
use Rattle.snd_layout.specs.declared.refusal.OpenRefusal.TheVariants.{BadRate, BadPair}
use Rattle.snd_layout.specs.Params.{Parameters}
use Rattle.snd_layout.specs.Refusals.{first_refusal, refuse_if}

-- the codecs of RF64: linear of 8 bits with an offset, or of more, the lowest byte first; and the laws
abbrev pub is_rf64_codec : Codec → Bool
is_rf64_codec U8 = true
is_rf64_codec (S16 Little) = true
is_rf64_codec (S24 Little) = true
is_rf64_codec (S32 Little) = true
is_rf64_codec MuLaw = true
is_rf64_codec ALaw = true
is_rf64_codec _ = false

-- those of WAVE and Wave64: ADPCM too, with one or two channels
abbrev pub is_wave_codec : ℕ → Codec → Bool
is_wave_codec channels (Ima align per_block) = nat_le channels 2
is_wave_codec channels (Ms align per_block) = nat_le channels 2
is_wave_codec channels codec = is_rf64_codec codec

-- those of AU, the highest byte first: linear in two's complement, and the laws
abbrev pub is_au_codec : Codec → Bool
is_au_codec S8 = true
is_au_codec (S16 Big) = true
is_au_codec (S24 Big) = true
is_au_codec (S32 Big) = true
is_au_codec MuLaw = true
is_au_codec ALaw = true
is_au_codec _ = false

-- those of AU, the lowest byte first
abbrev pub is_dns_codec : Codec → Bool
is_dns_codec S8 = true
is_dns_codec (S16 Little) = true
is_dns_codec (S24 Little) = true
is_dns_codec (S32 Little) = true
is_dns_codec MuLaw = true
is_dns_codec ALaw = true
is_dns_codec _ = false

abbrev pub is_voc_codec : Codec → Bool
is_voc_codec U8 = true
is_voc_codec (S16 Little) = true
is_voc_codec MuLaw = true
is_voc_codec ALaw = true
is_voc_codec _ = false

abbrev pub is_svx_codec : Codec → Bool
is_svx_codec S8 = true
is_svx_codec _ = false

abbrev pub is_sphere_codec : Codec → Bool
is_sphere_codec (S16 order) = true
is_sphere_codec MuLaw = true
is_sphere_codec ALaw = true
is_sphere_codec _ = false

-- whether a kind holds a codec with so many channels
abbrev pub is_pair : Kind → ℕ → Codec → Bool
is_pair Wave channels codec = is_wave_codec channels codec
is_pair W64 channels codec = is_wave_codec channels codec
is_pair Rf64 channels codec = is_rf64_codec codec
is_pair Au channels codec = is_au_codec codec
is_pair Dns channels codec = is_dns_codec codec
is_pair Voc channels codec = nat_le channels 2 && is_voc_codec codec
is_pair Svx channels codec = nat_le channels 1 && is_svx_codec codec
is_pair Sphere channels codec = is_sphere_codec codec

-- the rate of 8SVX has 16 bits
abbrev pub is_kinds_rate : Kind → ℕ → Bool
is_kinds_rate Svx rate = nat_lt rate (2 ^ 16)
is_kinds_rate _ rate = true

-- why a kind does not hold parameters
abbrev pub fit_refusal : Kind → Parameters → Option OpenRefusal
fit_refusal kind p = first_refusal (refuse_if (not (is_kinds_rate kind p.rate)) BadRate ∷ refuse_if (not (is_pair kind p.channels p.codec)) BadPair ∷ [])
