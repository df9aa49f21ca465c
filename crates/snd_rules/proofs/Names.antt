-- No word that is printed has more than 16 bytes.
use Rattle.std.proofs.Common.{◌≤◌, length, lit≤}
use Rattle.snd_fields.specs.declared.field.Order.TheVariants.{Little, Big}
use Rattle.snd_layout.specs.declared.codec.Codec.{Codec}
use Rattle.snd_layout.specs.declared.codec.Codec.TheVariants.{U8, S8, S16, S24, S32, MuLaw, ALaw, Ima, Ms}
use Rattle.snd_layout.specs.declared.refusal.OpenRefusal.{OpenRefusal}
use Rattle.snd_layout.specs.declared.refusal.OpenRefusal.TheVariants as chunk
use Rattle.snd_layout.proofs.Public.{short_kind as short}
use Rattle.snd_layout.specs.declared.kind.Kind.{Kind}
use Rattle.snd_layout.specs.Names.{codec_name, kind_name, refusal_name as open_name}
use Rattle.snd_lines.specs.declared.refusal.Refusal.{Refusal}
use Rattle.snd_lines.specs.declared.refusal.Refusal.TheVariants.{Open, AdpcmUpdate, UnknownLength, PartFrame, SampleRange, SeekRange, TrailingData, ContainerFull, Straddle, FramesWritten, ReservedChunk, NoChunks, ChunkTooLarge, AutoOn, AdpcmSeek, NoSuchChunk, BadBlock, BadCommand, LineTooLong, NotOpen, AlreadyOpen, WrongMode, SameName, MixedParams, NotMono, UnknownSuffix, MissingFile, NoRoom, BadInfo, BadCue, BadBext, TextTooLong, Pinned, NoSuchTap, TapOn, NoSuchStage, BadPlace, WrongCount}
use Rattle.snd_lines.specs.Refusals.{refusal_name}
use Rattle.snd_taps.specs.Names.{tap_name}
use Rattle.snd_taps.specs.declared.tap.TapKind.{TapKind}
use Rattle.snd_taps.specs.declared.tap.TapKind.TheVariants.{Peak, Clips, Energy}

pub short_kind : (kind : Kind) → length (kind_name kind) ≤ 16
short_kind kind = short kind

pub short_codec : (codec : Codec) → length (codec_name codec) ≤ 16
short_codec U8 = lit≤ tt
short_codec S8 = lit≤ tt
short_codec (S16 Little) = lit≤ tt
short_codec (S16 Big) = lit≤ tt
short_codec (S24 Little) = lit≤ tt
short_codec (S24 Big) = lit≤ tt
short_codec (S32 Little) = lit≤ tt
short_codec (S32 Big) = lit≤ tt
short_codec MuLaw = lit≤ tt
short_codec ALaw = lit≤ tt
short_codec (Ima align per_block) = lit≤ tt
short_codec (Ms align per_block) = lit≤ tt

pub short_open : (refusal : OpenRefusal) → length (open_name refusal) ≤ 16
short_open chunk.NotSound = lit≤ tt
short_open chunk.FloatRate = lit≤ tt
short_open chunk.ShortHeader = lit≤ tt
short_open chunk.BadField = lit≤ tt
short_open chunk.TooManyChunks = lit≤ tt
short_open chunk.NoFormat = lit≤ tt
short_open chunk.NoData = lit≤ tt
short_open chunk.LeadingBlock = lit≤ tt
short_open chunk.UnknownCodec = lit≤ tt
short_open chunk.FloatSamples = lit≤ tt
short_open chunk.BadChannels = lit≤ tt
short_open chunk.BadRate = lit≤ tt
short_open chunk.BadBits = lit≤ tt
short_open chunk.BadAlign = lit≤ tt
short_open chunk.BlockTooLarge = lit≤ tt
short_open chunk.OtherCoefs = lit≤ tt
short_open chunk.PackedBody = lit≤ tt
short_open chunk.BadPair = lit≤ tt

pub short_refusal : (refusal : Refusal) → length (refusal_name refusal) ≤ 16
short_refusal (Open refusal) = short_open refusal
short_refusal AdpcmUpdate = lit≤ tt
short_refusal UnknownLength = lit≤ tt
short_refusal PartFrame = lit≤ tt
short_refusal SampleRange = lit≤ tt
short_refusal SeekRange = lit≤ tt
short_refusal TrailingData = lit≤ tt
short_refusal ContainerFull = lit≤ tt
short_refusal Straddle = lit≤ tt
short_refusal WrongMode = lit≤ tt
short_refusal BadCommand = lit≤ tt
short_refusal LineTooLong = lit≤ tt
short_refusal NotOpen = lit≤ tt
short_refusal AlreadyOpen = lit≤ tt
short_refusal SameName = lit≤ tt
short_refusal MixedParams = lit≤ tt
short_refusal NotMono = lit≤ tt
short_refusal UnknownSuffix = lit≤ tt
short_refusal MissingFile = lit≤ tt
short_refusal NoRoom = lit≤ tt
short_refusal FramesWritten = lit≤ tt
short_refusal ReservedChunk = lit≤ tt
short_refusal NoChunks = lit≤ tt
short_refusal ChunkTooLarge = lit≤ tt
short_refusal AutoOn = lit≤ tt
short_refusal AdpcmSeek = lit≤ tt
short_refusal NoSuchChunk = lit≤ tt
short_refusal BadBlock = lit≤ tt
short_refusal BadInfo = lit≤ tt
short_refusal BadCue = lit≤ tt
short_refusal BadBext = lit≤ tt
short_refusal TextTooLong = lit≤ tt
short_refusal Pinned = lit≤ tt
short_refusal NoSuchTap = lit≤ tt
short_refusal TapOn = lit≤ tt
short_refusal NoSuchStage = lit≤ tt
short_refusal BadPlace = lit≤ tt
short_refusal WrongCount = lit≤ tt

pub short_tap : (kind : TapKind) → length (tap_name kind) ≤ 6
short_tap Peak = lit≤ tt
short_tap Clips = lit≤ tt
short_tap Energy = lit≤ tt
