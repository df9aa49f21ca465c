-- The words that name something.
use Rattle.std.specs.Prelude.{ℕ, Bool, true, false, List, [], ◌∷◌, Option, None, Some, codes, find, if◌then◌else◌}
use Rattle.std.specs.Str.{bytes_eq}
use Rattle.snd_fields.specs.declared.field.Order.TheVariants.{Little, Big}
use Rattle.snd_layout.specs.Names.{codec_name}
use Rattle.snd_layout.specs.declared.codec.Codec.TheVariants as printed
use Rattle.snd_meta.specs.declared.bext.BextKey.{BextKey}
use Rattle.snd_meta.specs.declared.bext.BextKey.TheVariants as bext
use Rattle.snd_meta.specs.declared.info.InfoKey.{InfoKey}
use Rattle.snd_meta.specs.declared.info.InfoKey.TheVariants as info
use Rattle.snd_command.specs.declared.tables.CodecWord.{CodecWord}
use Rattle.snd_command.specs.declared.tables.CodecWord.TheVariants as codec
use Rattle.snd_taps.specs.Names.{tap_name}
use Rattle.snd_taps.specs.declared.tap.TapKind.{TapKind}
use Rattle.snd_taps.specs.declared.tap.TapKind.TheVariants.{Peak, Clips, Energy}

-- what a word names in a table
abbrev pub named : {T : Type 0} → List ℕ → List (List ℕ × T) → Option T
named word [] = None
named word (row ∷ rows) = if bytes_eq word row.0 then Some row.1 else named word rows

-- the codec that is printed so, whatever its blocks
abbrev pub codec_of : List ℕ → Option CodecWord
codec_of word = named word (
    (codec_name printed.U8, codec.U8) ∷ (codec_name printed.S8, codec.S8)
    ∷ (codec_name (printed.S16 Little), codec.S16 Little) ∷ (codec_name (printed.S16 Big), codec.S16 Big)
    ∷ (codec_name (printed.S24 Little), codec.S24 Little) ∷ (codec_name (printed.S24 Big), codec.S24 Big)
    ∷ (codec_name (printed.S32 Little), codec.S32 Little) ∷ (codec_name (printed.S32 Big), codec.S32 Big)
    ∷ (codec_name printed.MuLaw, codec.MuLaw) ∷ (codec_name printed.ALaw, codec.ALaw)
    ∷ (codec_name (printed.Ima 0 0), codec.Ima) ∷ (codec_name (printed.Ms 0 0), codec.Ms) ∷ [])

-- the texts of a RIFF INFO list
abbrev pub info_of : List ℕ → Option InfoKey
info_of word = named word (
    (codes "title", info.Title) ∷ (codes "copyright", info.Copyright) ∷ (codes "software", info.Software)
    ∷ (codes "artist", info.Artist) ∷ (codes "comment", info.Comment) ∷ (codes "date", info.Date)
    ∷ (codes "album", info.Album) ∷ (codes "genre", info.Genre) ∷ (codes "track", info.Track) ∷ [])

-- the texts of a broadcast extension chunk (EBU Tech 3285), and its time reference
abbrev pub bext_of : List ℕ → Option BextKey
bext_of word = named word (
    (codes "description", bext.Description) ∷ (codes "originator", bext.Originator) ∷ (codes "orig-ref", bext.OrigRef)
    ∷ (codes "orig-date", bext.OrigDate) ∷ (codes "orig-time", bext.OrigTime) ∷ (codes "time-ref", bext.TimeRef)
    ∷ (codes "coding-hist", bext.CodingHist) ∷ [])

abbrev pub taps : List TapKind
taps = Peak ∷ Clips ∷ Energy ∷ []

abbrev pub tap_of : List ℕ → Option TapKind
tap_of word = find (λ kind. bytes_eq word (tap_name kind)) taps

abbrev pub switch_of : List ℕ → Option Bool
switch_of word = named word ((codes "on", true) ∷ (codes "off", false) ∷ [])
