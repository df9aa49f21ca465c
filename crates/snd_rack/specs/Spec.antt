-- A rack as a word of a command line says it. This library's own form: 1 to 8 items with commas between, `gain:A/B`, `invert`,
-- `map:I.J..` and `fade:N`.
use Rattle.std.specs.Prelude.{ℕ, ◌==◌, ◌&&◌, List, [], ◌∷◌, Option, None, Some, option_map, length, take, drop, codes, nat_le, if◌then◌else◌}
use Rattle.std.specs.List.{filter_map, list_all, slice_split}
use Rattle.std.specs.Option.{is_some, option_and_then, option_or}
use Rattle.std.specs.Str.{bytes_eq}
use Rattle.snd_fields.specs.Decimal.{decimal}
use Rattle.snd_rack.specs.Stage.{Stated}

-- the parts of a text, cut at each such byte
abbrev pub parts : ℕ → List ℕ → List (List ℕ)
parts byte text = slice_split (λ c. c == byte) text

-- what some texts say, at most so many, where each of them says something
abbrev pub each_says : {T : Type 0} → (List ℕ → Option T) → ℕ → List (List ℕ) → Option (List T)
each_says form most texts =
    if nat_le (length texts) most && list_all (λ text. is_some (form text)) texts then Some (filter_map form texts) else None

-- the number of 1 to 10 digits, leading zeros among them, where it lies between two bounds
abbrev pub within : ℕ → ℕ → ℕ → Option ℕ
within least most n = if nat_le least n && nat_le n most then Some n else None

unfoldable pub number_in : ℕ → ℕ → List ℕ → Option ℕ
number_in least most text = if nat_le (length text) 10 then option_and_then (within least most) (decimal text) else None

-- what stands behind a word at the front of a text
unfoldable pub behind : List ℕ → List ℕ → Option (List ℕ)
behind word text = if bytes_eq (take (length word) text) word then Some (drop (length word) text) else None

-- `A/B`
abbrev pub factor_by : List (List ℕ) → Option Stated
factor_by (a ∷ b ∷ []) = option_and_then (λ upper. option_map (Stated.gain upper) (number_in 1 65535 b)) (number_in 0 65535 a)
factor_by others = None

unfoldable pub gain_of : List ℕ → Option Stated
gain_of text = option_and_then (λ numbers. factor_by (parts 47 numbers)) (behind (codes "gain:") text)

unfoldable pub places_of : List ℕ → Option (List ℕ)
places_of text = each_says (number_in 0 255) 256 (parts 46 text)

unfoldable pub pick_of : List ℕ → Option Stated
pick_of text = option_map Stated.pick (option_and_then places_of (behind (codes "map:") text))

unfoldable pub fade_of : List ℕ → Option Stated
fade_of text = option_map Stated.fade (option_and_then (number_in 1 4294967295) (behind (codes "fade:") text))

unfoldable pub invert_of : List ℕ → Option Stated
invert_of text = if bytes_eq text (codes "invert") then Some Stated.invert else None

-- one item
unfoldable pub item_of : List ℕ → Option Stated
item_of text = option_or (gain_of text) (option_or (pick_of text) (option_or (fade_of text) (invert_of text)))

-- the items that a text says
unfoldable pub rack_of : List ℕ → Option (List Stated)
rack_of text = each_says item_of 8 (parts 44 text)
