-- The lines of a SPHERE header, after "SPeech HEader REsources (SPHERE) 2.6" (National Institute of Standards and
-- Technology, 1995), header structure: lines of text behind the first 16 bytes, each with a line feed behind it, up to the line `end_head`.
use Rattle.std.specs.Prelude.{ℕ, ◌+◌, ◌-◌, ◌==◌, Bool, false, not, ◌&&◌, ◌||◌, List, [], ◌∷◌, ◌++◌, Option, None, Some, Result, Ok, Err, codes, drop, length, nat_le, take, if◌then◌else◌}
use Rattle.std.specs.List.{filter, position_from}
use Rattle.std.specs.Str.{bytes_eq}
use Rattle.snd_fields.specs.Decimal.{decimal}
use Rattle.snd_layout.specs.declared.refusal.OpenRefusal.{OpenRefusal}
use Rattle.snd_layout.specs.declared.refusal.OpenRefusal.TheVariants.{BadField}
use Rattle.snd_sphere.specs.declared.stated.Stated.{Stated}

-- a line: the place of its first byte, and its bytes without the line feed
pub record TextLine : Type 0 where
  pub at : ℕ
  pub text : List ℕ

-- the lines of some bytes, of which the first goes on with these; what has no line feed behind it is none
abbrev pub lines_from : ℕ → List ℕ → List ℕ → List TextLine
lines_from at begun [] = []
lines_from at begun (c ∷ rest) =
    if c == 10 then (record { at = at; text = begun }) ∷ lines_from (at + length begun + 1) [] rest else lines_from at (begun ++ c ∷ []) rest

-- the lines of a header
unfoldable pub all_lines : List ℕ → List TextLine
all_lines header = lines_from 16 [] (drop 16 header)

abbrev pub is_end : TextLine → Bool
is_end line = bytes_eq line.text (codes "end_head")

-- those before the line that ends them
abbrev pub before_end : List TextLine → List TextLine
before_end [] = []
before_end (line ∷ rest) = if is_end line then [] else line ∷ before_end rest

-- some bytes begin with others
abbrev pub begins : List ℕ → List ℕ → Bool
begins word text = bytes_eq word (take (length word) text)

-- A line has a name where it begins with the name and a space, or is the name alone. The word is the name with the space.
abbrev pub has_name : List ℕ → List ℕ → Bool
has_name word text = begins word text || bytes_eq text (take (length word - 1) word)

abbrev pub are_named : List ℕ → List TextLine → List TextLine
are_named word lines = filter (λ line. has_name word line.text) lines

abbrev pub named : List ℕ → List ℕ → List TextLine
named word header = are_named word (before_end (all_lines header))

-- the only line of some; a second is refused
abbrev pub only : List TextLine → Result (Option TextLine) OpenRefusal
only [] = Ok None
only (line ∷ []) = Ok (Some line)
only (line ∷ other ∷ rest) = Err BadField

-- ---- numbers: `-i` and 1 to 18 digits, leading zeros among them

abbrev pub at_most : ℕ → Option ℕ → Option ℕ
at_most most None = None
at_most most (Some n) = if nat_le n most then Some n else None

abbrev pub number_text : ℕ → List ℕ → Option ℕ
number_text most digits = if nat_le (length digits) 18 then at_most most (decimal digits) else None

-- the number of a line that is to begin with some bytes and go on with digits
abbrev pub number_in : List ℕ → ℕ → List ℕ → Option ℕ
number_in front most text = if begins front text then number_text most (drop (length front) text) else None

-- .. with the place of the digits, and how many they are
abbrev pub stated_by : List ℕ → TextLine → Option ℕ → Result (Option Stated) OpenRefusal
stated_by front line None = Err BadField
stated_by front line (Some n) = Ok (Some (record { value = n; at = line.at + length front; size = length line.text - length front }))

abbrev pub number_of : List ℕ → ℕ → Result (Option TextLine) OpenRefusal → Result (Option Stated) OpenRefusal
number_of front most (Err refusal) = Err refusal
number_of front most (Ok None) = Ok None
number_of front most (Ok (Some line)) = stated_by front line (number_in front most line.text)

-- ---- texts: `-s` and how many bytes the text has, in digits without a leading zero, a space and the text

abbrev pub is_space : ℕ → Bool
is_space c = c == 32

abbrev pub is_number : Option ℕ → ℕ → Bool
is_number None n = false
is_number (Some k) n = k == n

abbrev pub states_size : List ℕ → ℕ → Bool
states_size digits n = ((length digits == 1) || not (begins (codes "0") digits)) && is_number (decimal digits) n

abbrev pub sized_at : List ℕ → Option ℕ → Option (List ℕ)
sized_at text None = None
sized_at text (Some n) = if states_size (take n text) (length text - (n + 1)) then Some (drop (n + 1) text) else None

abbrev pub sized_text : List ℕ → Option (List ℕ)
sized_text text = sized_at text (position_from is_space 0 text)

abbrev pub text_in : List ℕ → List ℕ → Option (List ℕ)
text_in front text = if begins front text then sized_text (drop (length front) text) else None

abbrev pub given : Option (List ℕ) → Result (Option (List ℕ)) OpenRefusal
given None = Err BadField
given (Some text) = Ok (Some text)

abbrev pub text_of : List ℕ → Result (Option TextLine) OpenRefusal → Result (Option (List ℕ)) OpenRefusal
text_of front (Err refusal) = Err refusal
text_of front (Ok None) = Ok None
text_of front (Ok (Some line)) = given (text_in front line.text)
