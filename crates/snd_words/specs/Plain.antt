-- The commands `info`, `script`, `--help` and `--version`, by the words behind them.
use Rattle.std.specs.Prelude.{ℕ, Bool, ◌&&◌, List, [], ◌∷◌, None, Some, codes, length, nat_le, if◌then◌else◌}
use Rattle.std.specs.List.{list_all}
use Rattle.std.specs.Str.{bytes_eq}
use Rattle.snd_words.specs.Asked.{Asked}
use Rattle.snd_words.specs.Names.{is_name}

-- names, as many as from one number to another
abbrev pub are_names : ℕ → ℕ → List (List ℕ) → Bool
are_names least most words = nat_le least (length words) && nat_le (length words) most && list_all is_name words

-- `info NAME..`
unfoldable pub info_asked : List (List ℕ) → Asked
info_asked words = if are_names 1 64 words then Asked.info_of words else Asked.nothing

-- `script`, and `script --auto NAME`
unfoldable pub script_asked : List (List ℕ) → Asked
script_asked [] = Asked.script None
script_asked (option ∷ name ∷ []) = if bytes_eq option (codes "--auto") && is_name name then Asked.script (Some name) else Asked.nothing
script_asked words = Asked.nothing

-- a command behind which no word stands
unfoldable pub alone_asked : Asked → List (List ℕ) → Asked
alone_asked command [] = command
alone_asked command words = Asked.nothing
