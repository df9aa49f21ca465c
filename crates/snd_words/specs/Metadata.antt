-- The command `metadata-set`, by the words behind it.
use Rattle.std.specs.Prelude.{◌≡◌, ℕ, ◌*◌, ◌^◌, ◌<◌, Bool, true, ◌&&◌, ◌==◌, not, List, [], ◌∷◌, Option, None, Some, option_map, length, map, drop, codes, nat_le, if◌then◌else◌}
use Rattle.std.specs.List.{list_all, list_any}
use Rattle.std.specs.Option.{unwrap_or}
use Rattle.std.specs.Str.{bytes_eq}
use Rattle.snd_fields.specs.Decimal.{decimal}
use Rattle.snd_meta.specs.declared.bext.BextKey.{BextKey}
use Rattle.snd_meta.specs.declared.bext.BextKey.TheVariants.{Description, Originator, OrigRef, OrigDate, OrigTime, CodingHist}
use Rattle.snd_meta.specs.declared.info.InfoKey.{InfoKey}
use Rattle.snd_meta.specs.declared.info.InfoKey.TheVariants.{Title, Artist, Comment, Copyright, Date, Album}
use Rattle.snd_words.specs.Asked.{Asked, Work}
use Rattle.snd_words.specs.Names.{two_names}
use Rattle.snd_words.specs.Options.{all_of, is_option, named}
use Rattle.snd_words.specs.Stated.{Stated}

unfoldable pub info_of : List ℕ → Option InfoKey
info_of option = named option (
    (codes "--str-title", Title) ∷ (codes "--str-artist", Artist) ∷ (codes "--str-comment", Comment)
    ∷ (codes "--str-copyright", Copyright) ∷ (codes "--str-date", Date) ∷ (codes "--str-album", Album) ∷ [])

unfoldable pub field_of : List ℕ → Option BextKey
field_of option = named option (
    (codes "--bext-description", Description) ∷ (codes "--bext-originator", Originator) ∷ (codes "--bext-orig-ref", OrigRef)
    ∷ (codes "--bext-orig-date", OrigDate) ∷ (codes "--bext-orig-time", OrigTime) ∷ (codes "--bext-coding-hist", CodingHist) ∷ [])

-- 1 or more bytes, none of them 0
abbrev pub is_not_zero : ℕ → Bool
is_not_zero c = not (c == 0)

unfoldable pub is_text : List ℕ → Bool
is_text text = nat_le 1 (length text) && list_all is_not_zero text

-- a text of the INFO list or of the broadcast extension
abbrev pub text_stated : Option InfoKey → Option BextKey → List ℕ → Option Stated
text_stated (Some key) field text = Some (Stated.info_text key text)
text_stated None (Some key) text = Some (Stated.bext_field key text)
text_stated None None text = None

-- what an option and the word behind it set: a time reference, or a text
unfoldable pub stated_by : List ℕ → List ℕ → Option Stated
stated_by option text =
    if bytes_eq option (codes "--bext-time-ref") then option_map Stated.bext_time (decimal text)
    else (if is_text text then text_stated (info_of option) (field_of option) text else None)

-- the pairs of words at the front, each an option and its text
abbrev pub option_pairs : List (List ℕ) → List (List ℕ × List ℕ)
option_pairs (option ∷ text ∷ words) = if is_option option then (option, text) ∷ option_pairs words else []
option_pairs words = []

abbrev pub options_in : List (List ℕ × List ℕ) → List (List ℕ)
options_in pairs = map (λ pair. pair.0) pairs

-- no word stands twice
abbrev pub are_distinct : List (List ℕ) → Bool
are_distinct [] = true
are_distinct (word ∷ words) = not (list_any (bytes_eq word) words) && are_distinct words

-- what pairs set, where each of them sets something
abbrev pub stated_pair : List ℕ × List ℕ → Option Stated
stated_pair (option, text) = stated_by option text

abbrev pub all_stated : List (List ℕ × List ℕ) → Option (List Stated)
all_stated pairs = all_of stated_pair pairs

-- the same of pairs that are known to set something each
abbrev pub stated_list : List (List ℕ × List ℕ) → List Stated
stated_list pairs = unwrap_or (all_stated pairs) []

pub record ArePairs (pairs : List (List ℕ × List ℕ)) (count : ℕ) : Type 0 where
  pub all : count ≡ length pairs
  pub fits : 2 * count < 2 ^ 64
  pub known : all_stated pairs ≡ Some (stated_list pairs)

abbrev pub set_with : Option (List Stated) → Option (List ℕ × List ℕ) → Asked
set_with (Some settings) (Some (input, output)) = Asked.tool (Work.set_metadata settings input output)
set_with settings names = Asked.nothing

-- pairs, one or more and none of an option that another has, and the words behind them
abbrev pub set_behind : List (List ℕ × List ℕ) → List (List ℕ) → Asked
set_behind pairs names =
    if nat_le 1 (length pairs) && are_distinct (options_in pairs) then set_with (all_stated pairs) (two_names names) else Asked.nothing

-- `metadata-set OPTION TEXT .. IN OUT`
unfoldable pub metadata_asked : List (List ℕ) → Asked
metadata_asked words = set_behind (option_pairs words) (drop (2 * length (option_pairs words)) words)
