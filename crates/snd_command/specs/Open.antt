-- The commands that open, make and close a file, and those that tell of it.
use Rattle.std.specs.Prelude.{ℕ, List, [], ◌∷◌, Option, None, Some, option_map, codes, if◌then◌else◌}
use Rattle.std.specs.Str.{bytes_eq}
use Rattle.snd_fields.specs.Decimal.{decimal}
use Rattle.snd_layout.specs.declared.kind.Kind.{Kind}
use Rattle.snd_command.specs.declared.tables.CodecWord.{CodecWord}
use Rattle.snd_command.specs.Forms.{is_name, ident}
use Rattle.snd_layout.specs.Kinds.{kind_named}
use Rattle.snd_command.specs.Tables.{codec_of, named}
use Rattle.snd_command.specs.Said.{Said}

-- `info`, `close`, `trim`, `update`, `reserve`, `promote`: nothing stands behind them
abbrev pub bare_said : List ℕ → List (List ℕ) → Option Said
bare_said verb [] = named verb ((codes "info", Said.info) ∷ (codes "close", Said.close) ∷ (codes "trim", Said.trim) ∷ (codes "update", Said.update)
    ∷ (codes "reserve", Said.reserve) ∷ (codes "promote", Said.promote) ∷ [])
bare_said verb args = None

-- `open r NAME`, `open u NAME`: the words behind `open`
abbrev pub open_said : List (List ℕ) → Option Said
open_said (mode ∷ name ∷ []) =
    if is_name name then (if bytes_eq mode (codes "r") then Some (Said.open_read name) else (if bytes_eq mode (codes "u") then Some (Said.open_update name) else None)) else None
open_said args = None

-- `create KIND CODEC N N NAME`
abbrev pub created : Option Kind → Option CodecWord → Option ℕ → Option ℕ → List ℕ → Option Said
created (Some kind) (Some codec) (Some channels) (Some rate) name = if is_name name then Some (Said.create kind codec channels rate name) else None
created kind codec channels rate name = None

abbrev pub create_said : List (List ℕ) → Option Said
create_said (kind ∷ codec ∷ channels ∷ rate ∷ name ∷ []) = created (kind_named kind) (codec_of codec) (decimal channels) (decimal rate) name
create_said args = None

-- `get chunks`, `get strings`, `get bext`, `get cues`, `get chunk ID`
abbrev pub get_said : List (List ℕ) → Option Said
get_said (what ∷ []) = named what ((codes "chunks", Said.get_chunks) ∷ (codes "strings", Said.get_strings) ∷ (codes "bext", Said.get_bext) ∷ (codes "cues", Said.get_cues) ∷ [])
get_said (what ∷ id ∷ []) = if bytes_eq what (codes "chunk") then option_map Said.get_chunk (ident id) else None
get_said args = None
