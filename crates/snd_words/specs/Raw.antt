-- The commands `import` and `export`, by the words behind them.
use Rattle.std.specs.Prelude.{ℕ, Bool, ◌&&◌, List, [], ◌∷◌, Option, None, Some, codes, find, if◌then◌else◌}
use Rattle.std.specs.Str.{bytes_eq}
use Rattle.snd_fields.specs.Decimal.{decimal}
use Rattle.snd_fields.specs.declared.field.Order.TheVariants.{Little, Big}
use Rattle.snd_layout.specs.Names.{codec_name}
use Rattle.snd_layout.specs.declared.codec.Codec.{Codec}
use Rattle.snd_layout.specs.declared.codec.Codec.TheVariants.{U8, S8, S16, S24, S32, MuLaw, ALaw}
use Rattle.snd_words.specs.Asked.{Asked, Work}
use Rattle.snd_words.specs.Names.{is_name}
use Rattle.snd_words.specs.Options.{named}
use Rattle.snd_words.specs.declared.raw.ExportForm.{ExportForm}
use Rattle.snd_words.specs.declared.raw.ExportForm.TheVariants as exports
use Rattle.snd_words.specs.declared.raw.ImportForm.{ImportForm}
use Rattle.snd_words.specs.declared.raw.ImportForm.TheVariants as imports

-- the codecs whose samples have bytes of their own, and the one of a name
abbrev pub plain_codecs : List Codec
plain_codecs = U8 ∷ S8 ∷ S16 Little ∷ S16 Big ∷ S24 Little ∷ S24 Big ∷ S32 Little ∷ S32 Big ∷ MuLaw ∷ ALaw ∷ []

unfoldable pub plain_codec : List ℕ → Option Codec
plain_codec word = find (λ codec. bytes_eq word (codec_name codec)) plain_codecs

-- what is to be read: samples of a codec, with a number of channels and a rate; or VOX, with a rate
abbrev pub raw_with : Option Codec → Option ℕ → Option ℕ → Option ImportForm
raw_with (Some codec) (Some channels) (Some rate) = Some (imports.Raw codec channels rate)
raw_with codec channels rate = None

unfoldable pub raw_form : List ℕ → List ℕ → List ℕ → Option ImportForm
raw_form codec channels rate = raw_with (plain_codec codec) (decimal channels) (decimal rate)

abbrev pub vox_form : Option ℕ → Option ImportForm
vox_form (Some rate) = Some (imports.Vox rate)
vox_form None = None

-- .. from a file of one name, for one of another
abbrev pub import_with : Option ImportForm → List ℕ → List ℕ → Asked
import_with (Some form) input output = Asked.tool (Work.import_as form input output)
import_with None input output = Asked.nothing

abbrev pub export_with : Option ExportForm → List ℕ → List ℕ → Asked
export_with (Some form) input output = Asked.tool (Work.export_as form input output)
export_with None input output = Asked.nothing

abbrev pub are_two : List ℕ → List ℕ → Bool
are_two input output = is_name input && is_name output

-- `import raw CODEC N N IN OUT`: channels, and a rate
unfoldable pub import_raw_asked : List (List ℕ) → Asked
import_raw_asked (codec ∷ channels ∷ rate ∷ input ∷ output ∷ []) =
    if are_two input output then import_with (raw_form codec channels rate) input output else Asked.nothing
import_raw_asked words = Asked.nothing

-- `import vox N IN OUT`: a rate
unfoldable pub import_vox_asked : List (List ℕ) → Asked
import_vox_asked (rate ∷ input ∷ output ∷ []) = if are_two input output then import_with (vox_form (decimal rate)) input output else Asked.nothing
import_vox_asked words = Asked.nothing

-- `import pvf IN OUT`
unfoldable pub import_pvf_asked : List (List ℕ) → Asked
import_pvf_asked (input ∷ output ∷ []) = if are_two input output then import_with (Some imports.Pvf) input output else Asked.nothing
import_pvf_asked words = Asked.nothing

unfoldable pub import_asked : List (List ℕ) → Asked
import_asked [] = Asked.nothing
import_asked (form ∷ words) =
    if bytes_eq form (codes "raw") then import_raw_asked words
    else (if bytes_eq form (codes "vox") then import_vox_asked words
    else (if bytes_eq form (codes "pvf") then import_pvf_asked words
    else Asked.nothing))

unfoldable pub export_form : List ℕ → Option ExportForm
export_form word = named word ((codes "raw", exports.Raw) ∷ (codes "vox", exports.Vox) ∷ (codes "pvf", exports.Pvf) ∷ [])

-- `export raw IN OUT`, `export vox IN OUT`, `export pvf IN OUT`
unfoldable pub export_asked : List (List ℕ) → Asked
export_asked (form ∷ input ∷ output ∷ []) = if are_two input output then export_with (export_form form) input output else Asked.nothing
export_asked words = Asked.nothing
