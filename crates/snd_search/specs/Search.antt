-- What is found of a sound in bytes whose head is missing or damaged: a format, and data behind it. No size is believed but
-- that of the format. The chunks are those of RIFF ("Multimedia Programming Interface and Data Specifications 1.0", IBM and
-- Microsoft, 1991).
use Rattle.std.specs.Prelude.{◌≡◌, ◌+◌, ◌<◌, ◌≤◌, ℕ, Bool, false, ◌&&◌, Option, None, Some, option_map, Result, Ok, Err, List, length, take, drop, nat_le, codes, if◌then◌else◌}
use Rattle.snd_fields.specs.Field.{number}
use Rattle.snd_fields.specs.declared.field.Order.TheVariants.{Little}
use Rattle.snd_layout.specs.Blocks.{is_adpcm}
use Rattle.snd_layout.specs.Format.{format_of}
use Rattle.snd_layout.specs.Params.{Parameters}
use Rattle.snd_layout.specs.declared.refusal.OpenRefusal.{OpenRefusal}
use Rattle.snd_search.specs.Marks.{begins, first_suffix}
use Rattle.snd_search.specs.declared.stated.Stated.{Stated}

-- a format that was found, and the bytes behind its body
pub record Found : Type 0 where
  pub params : Parameters
  pub rest : List ℕ

-- the parameters of a body that is good, and whose samples have a fixed number of bytes
abbrev pub fixed_format : Result Parameters OpenRefusal → Option Parameters
fixed_format (Err refusal) = None
fixed_format (Ok params) = if is_adpcm params.codec then None else Some params

-- the size that a chunk states
abbrev pub stated_size : List ℕ → ℕ
stated_size s = number Little s 4 4

-- A list begins by the head of a format, whose body has 16 bytes at least, all of them there.
abbrev pub begins_format : List ℕ → Bool
begins_format s = begins (codes "fmt ") s && nat_le 16 (stated_size s) && nat_le (8 + stated_size s) (length s)

-- The format by whose head a list begins. Of a body its first 64 bytes are judged.
abbrev pub format_here : List ℕ → Option Found
format_here s =
    if begins_format s
    then option_map (λ params. record { params = params; rest = drop (8 + stated_size s) s }) (fixed_format (format_of (take 64 (take (stated_size s) (drop 8 s)))))
    else None

-- the first good format in a list of bytes
abbrev pub format_in : List ℕ → Option Found
format_in b = first_suffix format_here b

-- the bytes behind the head of the data by which a list begins
abbrev pub data_here : List ℕ → Option (List ℕ)
data_here s = if begins (codes "data") s && nat_le 8 (length s) then Some (drop 8 s) else None

-- the bytes behind the first such head in a list
abbrev pub behind_data : List ℕ → Option (List ℕ)
behind_data b = first_suffix data_here b

-- ---- what searches answer over a disk

-- what is found there, on a list of bytes
abbrev pub found_in : List ℕ → Stated → Found
found_in b stated = record { params = stated.params; rest = drop stated.behind b }

-- how many bytes the body of a format has of whose head these are the bytes, where it has 16 at least and at most so many
abbrev pub body_len : ℕ → List ℕ → Option ℕ
body_len room head = if begins (codes "fmt ") head && nat_le 16 (stated_size head) && nat_le (stated_size head) room then Some (stated_size head) else None

-- a format that was found ends within a file of so many bytes, and its head begins behind a place
pub record IsPlaced (size from : ℕ) (stated : Stated) : Type 0 where
  pub behind : from + 24 ≤ stated.behind
  pub within : stated.behind ≤ size
  pub is_fixed : is_adpcm stated.params.codec ≡ false

-- No format begins in the n bytes of b from a place on, whose mark ends among them; or the first of them is this.
pub record IsFirstFormat (b : List ℕ) (at n : ℕ) (stated : Stated) : Type 0 where
  pub place : ℕ
  pub within : place + 4 ≤ n
  pub none_before : (i : ℕ) → i < place → format_here (drop (at + i) b) ≡ None
  pub is : format_here (drop (at + place) b) ≡ Some (found_in b stated)

abbrev pub FormatWithin : List ℕ → ℕ → ℕ → Option Stated → Type 0
FormatWithin b at n None = (i : ℕ) → i + 4 ≤ n → format_here (drop (at + i) b) ≡ None
FormatWithin b at n (Some stated) = IsFirstFormat b at n stated

-- the place up to which a search has come: behind the format that it found, or else to the end
abbrev pub reached : {E : Type 0} → ℕ → Result (Option Stated) E → ℕ
reached end (Ok (Some stated)) = stated.behind
reached end (Ok None) = end
reached end (Err error) = end
