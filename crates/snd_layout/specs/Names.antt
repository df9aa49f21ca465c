-- The words and numbers that are printed.
use Rattle.std.specs.Prelude.{ℕ, List, codes}
use Rattle.snd_fields.specs.declared.field.Order.TheVariants.{Little, Big}
use Rattle.snd_layout.specs.declared.kind.Kind.{Kind}
use Rattle.snd_layout.specs.declared.kind.Kind.TheVariants.{Wave, Rf64, W64, Au, Dns, Voc, Svx, Sphere}
use Rattle.snd_layout.specs.declared.codec.Codec.{Codec}
use Rattle.snd_layout.specs.declared.codec.Codec.TheVariants.{U8, S8, S16, S24, S32, MuLaw, ALaw, Ima, Ms}
use Rattle.snd_layout.specs.declared.refusal.OpenRefusal.{OpenRefusal}
use Rattle.snd_layout.specs.declared.refusal.OpenRefusal.TheVariants.{NotSound, FloatRate, ShortHeader, BadField, TooManyChunks, NoFormat, NoData, LeadingBlock, UnknownCodec, FloatSamples, BadChannels, BadRate, BadBits, BadAlign, BlockTooLarge, OtherCoefs, PackedBody, BadPair}

abbrev pub kind_name : Kind → List ℕ
kind_name Wave = codes "wave"
kind_name Rf64 = codes "rf64"
kind_name W64 = codes "w64"
kind_name Au = codes "au"
kind_name Dns = codes "dns"
kind_name Voc = codes "voc"
kind_name Svx = codes "svx"
kind_name Sphere = codes "sphere"

abbrev pub codec_name : Codec → List ℕ
codec_name U8 = codes "pcm_u8"
codec_name S8 = codes "pcm_s8"
codec_name (S16 Little) = codes "pcm_16_le"
codec_name (S16 Big) = codes "pcm_16_be"
codec_name (S24 Little) = codes "pcm_24_le"
codec_name (S24 Big) = codes "pcm_24_be"
codec_name (S32 Little) = codes "pcm_32_le"
codec_name (S32 Big) = codes "pcm_32_be"
codec_name MuLaw = codes "ulaw"
codec_name ALaw = codes "alaw"
codec_name (Ima align per_block) = codes "ima"
codec_name (Ms align per_block) = codes "ms"

abbrev pub refusal_number : OpenRefusal → ℕ
refusal_number NotSound = 1
refusal_number FloatRate = 2
refusal_number ShortHeader = 3
refusal_number BadField = 4
refusal_number TooManyChunks = 5
refusal_number NoFormat = 6
refusal_number NoData = 7
refusal_number LeadingBlock = 8
refusal_number UnknownCodec = 9
refusal_number FloatSamples = 10
refusal_number BadChannels = 11
refusal_number BadRate = 12
refusal_number BadBits = 13
refusal_number BadAlign = 14
refusal_number BlockTooLarge = 15
refusal_number OtherCoefs = 16
refusal_number PackedBody = 17
refusal_number BadPair = 18

abbrev pub refusal_name : OpenRefusal → List ℕ
refusal_name NotSound = codes "NotSound"
refusal_name FloatRate = codes "FloatRate"
refusal_name ShortHeader = codes "ShortHeader"
refusal_name BadField = codes "BadField"
refusal_name TooManyChunks = codes "TooManyChunks"
refusal_name NoFormat = codes "NoFormat"
refusal_name NoData = codes "NoData"
refusal_name LeadingBlock = codes "LeadingBlock"
refusal_name UnknownCodec = codes "UnknownCodec"
refusal_name FloatSamples = codes "FloatSamples"
refusal_name BadChannels = codes "BadChannels"
refusal_name BadRate = codes "BadRate"
refusal_name BadBits = codes "BadBits"
refusal_name BadAlign = codes "BadAlign"
refusal_name BlockTooLarge = codes "BlockTooLarge"
refusal_name OtherCoefs = codes "OtherCoefs"
refusal_name PackedBody = codes "PackedBody"
refusal_name BadPair = codes "BadPair"
