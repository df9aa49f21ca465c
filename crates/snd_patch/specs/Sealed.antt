-- A file whose fields are brought up to a number of frames. The order of the fields is this library's own rule: so a crash
-- leaves the old number of frames or the new one.
use Rattle.std.specs.Prelude.{◌≡◌, ℕ, ◌<◌, false, List, [], ◌∷◌, ◌++◌, length, max, take, get_or, Option, None, Some, IfSome, nat_le, nat_lt, if◌then◌else◌}
use Rattle.snd_disk.specs.Bytes.{over}
use Rattle.snd_disk.specs.Runs.{AreApart}
use Rattle.snd_layout.specs.Params.{data_bytes}
use Rattle.snd_layout.specs.Shape.{Shape, end}
use Rattle.snd_layout.specs.declared.field.Field.{Field}
use Rattle.snd_layout.specs.Container.{is_in_fields}
use Rattle.snd_layout.specs.Filled.{over_field}
use Rattle.snd_container.specs.Values.{closed_end, closing, inner_value, outer_value, side_value}

-- what is held on the way: nothing more where the field is not there
abbrev pub held_field : Option Field → List ℕ → List ℕ → List (List ℕ)
held_field None b bytes = []
held_field (Some field) b bytes = over b field.at bytes ∷ []

-- b with the size of the whole of n frames, and the count that is not read
abbrev pub with_others : List ℕ → Shape → ℕ → List ℕ
with_others b h n = over_field h.side (over_field h.outer b (outer_value h n)) (side_value h n)

-- .. and what is held on the way
abbrev pub held_others : List ℕ → Shape → ℕ → List (List ℕ)
held_others b h n = held_field h.outer b (outer_value h n) ++ held_field h.side (over_field h.outer b (outer_value h n)) (side_value h n)

-- b with the number that decides the count
abbrev pub with_inner : List ℕ → Shape → ℕ → List ℕ
with_inner b h n = over b h.inner.at (inner_value h n)

-- b with the fields of n frames, in the order in which the count grows, and in that in which it shrinks
abbrev pub with_fields : List ℕ → Shape → ℕ → List ℕ
with_fields b h n = with_others (with_inner b h n) h n

abbrev pub with_fewer : List ℕ → Shape → ℕ → List ℕ
with_fewer b h n = with_inner (with_others b h n) h n

-- b with what closes the data of n frames
abbrev pub over_closing : List ℕ → Shape → ℕ → List ℕ
over_closing b h n = over b (end h n) (closing h n)

-- .. where it is not all there
abbrev pub closed : List ℕ → Shape → ℕ → List ℕ
closed b h n = if nat_lt (length b) (closed_end h n) then over_closing b h n else b

-- b once it has grown to n frames: a file that goes on behind its data stays
abbrev pub grown : List ℕ → Shape → ℕ → List ℕ
grown b h n = if h.trailing then b else with_fields b h n

-- b once it has shrunk to n frames
abbrev pub shrunk : List ℕ → Shape → ℕ → List ℕ
shrunk b h n = take (closed_end h n) (over_closing (with_fewer b h n) h n)

-- b with the fields of n frames, in the order for those that its head declares
abbrev pub patched : List ℕ → Shape → ℕ → List ℕ
patched b h n = if nat_le h.declared (data_bytes h.params n) then with_fields b h n else with_fewer b h n

-- b once it is sealed to n frames
abbrev pub sealed : List ℕ → Shape → ℕ → List ℕ
sealed b h n = if h.trailing then b else patched (closed b h n) h n

-- .. and its length then
abbrev pub sealed_size : ℕ → Shape → ℕ → ℕ
sealed_size size h n = if h.trailing then size else max size (closed_end h n)

-- what a file says of itself then
abbrev pub counted : Shape → ℕ → Shape
counted h n = record h { frames = n; declared = if h.trailing then h.declared else data_bytes h.params n }

-- before the end of the data of n frames, beside the fields, x has the bytes of b
abbrev pub SameBesideFields : Shape → ℕ → List ℕ → List ℕ → Type 0
SameBesideFields h n b x = (i : ℕ) → i < end h n → is_in_fields h i ≡ false → get_or x i 0 ≡ get_or b i 0

-- two fields have no byte in common, and so no two of a head
abbrev pub LieApart : Field → Field → Type 0
LieApart one other = AreApart one.at one.size other.at other.size

pub record FieldsLieApart (h : Shape) : Type 0 where
  pub outer : IfSome h.outer (LieApart h.inner)
  pub side : IfSome h.side (LieApart h.inner)
