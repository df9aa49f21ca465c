-- What the words of a command line can ask for.
use Rattle.std.specs.Prelude.{◌≡◌, ℕ, ◌^◌, ◌<◌, ◌≤◌, List, All, Option, false}
use Rattle.snd_fields.specs.declared.field.Order.{Order}
use Rattle.snd_layout.specs.Blocks.{is_adpcm}
use Rattle.snd_rack.specs.Stage.{Stated as StageSetting}
use Rattle.snd_words.specs.declared.convert.CodecChoice.{CodecChoice}
use Rattle.snd_words.specs.Stated.{IsStated, Stated}
use Rattle.snd_words.specs.declared.raw.ExportForm.{ExportForm}
use Rattle.snd_words.specs.declared.raw.ImportForm.{ImportForm}
use Rattle.snd_words.specs.declared.raw.ImportForm.TheVariants as imports
use Rattle.snd_words.specs.declared.topic.Topic.{Topic}

-- what `convert` is to do; no items stand where the words have no rack
pub record Converting : Type 0 where
  pub rate : Option ℕ
  pub order : Option Order
  pub codec : Option CodecChoice
  pub rack : List StageSetting
  pub input : List ℕ
  pub output : List ℕ

-- what a tool is to do
pub data Work : Type 0 where
  convert : Converting → Work
  concat : List (List ℕ) → List ℕ → Work
  interleave : List (List ℕ) → List ℕ → Work
  gen : ℕ → ℕ → List ℕ → Work
  set_metadata : List Stated → List ℕ → List ℕ → Work
  import_as : ImportForm → List ℕ → List ℕ → Work
  export_as : ExportForm → List ℕ → List ℕ → Work
  salvage : List ℕ → List ℕ → Work
  deinterleave : List ℕ → List (List ℕ) → Work

pub data Asked : Type 0 where
  info_of : List (List ℕ) → Asked
  script : Option (List ℕ) → Asked
  help : Asked
  help_on : Topic → Asked
  version : Asked
  tool : Work → Asked
  nothing : Asked

-- samples without a head are of no ADPCM, and all numbers are those that words can write
abbrev pub IsImport : ImportForm → Type 0
IsImport (imports.Raw codec channels rate) = (is_adpcm codec ≡ false) × (channels < 2 ^ 63) × (rate < 2 ^ 63)
IsImport (imports.Vox rate) = rate < 2 ^ 63
IsImport imports.Pvf = Unit {0}

-- Words ask for numbers in their ranges alone, and for texts that can be set.
abbrev pub IsWork : Work → Type 0
IsWork (Work.gen seed frames name) = (seed < 2 ^ 32) × (1 ≤ frames) × (frames ≤ 10000000)
IsWork (Work.set_metadata settings input output) = All IsStated settings
IsWork (Work.import_as form input output) = IsImport form
IsWork work = Unit {0}

abbrev pub IsAsked : Asked → Type 0
IsAsked (Asked.tool work) = IsWork work
IsAsked asked = Unit {0}
