-- The commands that set a chunk of a file that is being made.
use Rattle.std.specs.Prelude.{ℕ, Bool, List, [], ◌∷◌, Option, None, Some, option_map, is_some, codes, drop, if◌then◌else◌}
use Rattle.std.specs.Option.{option_and_then}
use Rattle.std.specs.Str.{bytes_eq}
use Rattle.snd_fields.specs.Decimal.{decimal}
use Rattle.snd_meta.specs.declared.bext.BextKey.{BextKey}
use Rattle.snd_meta.specs.declared.bext.BextKey.TheVariants.{TimeRef}
use Rattle.snd_command.specs.Forms.{hex, ident, is_text}
use Rattle.snd_command.specs.Numbers.{set_cue_said}
use Rattle.snd_command.specs.Tables.{bext_of, info_of}
use Rattle.snd_command.specs.Said.{Said}
use Rattle.snd_command.specs.Words.{behind_word}

-- `set chunk ID HEX`
abbrev pub set_chunk_said : List (List ℕ) → Option Said
set_chunk_said (id ∷ digits ∷ []) = option_and_then (λ id. option_map (Said.set_chunk id) (hex digits)) (ident id)
set_chunk_said args = None

-- all that stands behind the first space behind the first word
abbrev pub text_after : List ℕ → List ℕ
text_after args = drop 1 (behind_word args)

-- the text of a line `set string KEY TEXT` or `set bext KEY TEXT`, of what stands behind `set`
abbrev pub text_behind : List ℕ → List ℕ
text_behind args = text_after (behind_word args)

-- `set string KEY TEXT`
abbrev pub set_string_said : List (List ℕ) → List ℕ → Option Said
set_string_said [] text = None
set_string_said (key ∷ args) text = option_and_then (λ key. if is_text text then Some (Said.set_string key text) else None) (info_of key)

-- `set bext KEY TEXT`; the time reference is a number
abbrev pub is_bext_text : BextKey → List ℕ → Bool
is_bext_text TimeRef text = is_some (decimal text)
is_bext_text key text = is_text text

abbrev pub set_bext_said : List (List ℕ) → List ℕ → Option Said
set_bext_said [] text = None
set_bext_said (key ∷ args) text = option_and_then (λ key. if is_bext_text key text then Some (Said.set_bext key text) else None) (bext_of key)

-- `set ..`: the words behind `set`, and the line's text
abbrev pub set_said : List (List ℕ) → List ℕ → Option Said
set_said [] text = None
set_said (what ∷ args) text =
    if bytes_eq what (codes "chunk") then set_chunk_said args
    else (if bytes_eq what (codes "string") then set_string_said args text
    else (if bytes_eq what (codes "bext") then set_bext_said args text
    else (if bytes_eq what (codes "cue") then set_cue_said args else None)))
