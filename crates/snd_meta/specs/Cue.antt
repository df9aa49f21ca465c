-- The cue points of a `cue ` chunk. Microsoft and IBM, "Multimedia Programming Interface and Data
-- Specifications 1.0" (1991), "Cue-Points Chunk".
use Rattle.std.specs.Prelude.{ℕ, zero, suc, ◌+◌, ◌*◌, ◌^◌, ◌<◌, nat_lt, if◌then◌else◌, List, [], ◌∷◌, ◌++◌, length, drop, codes, Option, Some, None}
use Rattle.std.specs.List.{AllByRecursion, flat_map}
use Rattle.snd_fields.specs.Field.{number, bytes_of}
use Rattle.snd_fields.specs.declared.field.Order.TheVariants.{Little}
use Rattle.snd_meta.specs.declared.cue.CuePoint.{CuePoint}

-- a point's numbers are those of four bytes
pub record IsPoint (p : CuePoint) : Type 0 where
  pub name : p.name < 2 ^ 32
  pub offset : p.offset < 2 ^ 32

-- what a list of points is: its length is a number of four bytes too
pub record IsCues (points : List CuePoint) : Type 0 where
  pub count : length points < 2 ^ 32
  pub each : AllByRecursion IsPoint points

-- ---- reading

-- the point at the front: its name is the first of its six fields, and its sample offset the last
abbrev pub point_of : List ℕ → CuePoint
point_of bytes = record { name = number Little bytes 0 4; offset = number Little bytes 20 4 }

-- n points of 24 bytes each
abbrev pub points_of : ℕ → List ℕ → List CuePoint
points_of zero bytes = []
points_of (suc n) bytes = point_of bytes ∷ points_of n (drop 24 bytes)

-- how many points a body says that it has
abbrev pub count_of : List ℕ → ℕ
count_of body = number Little body 0 4

-- what a body holds: nothing where it is shorter than its count and the points
unfoldable pub cues_of : List ℕ → Option (List CuePoint)
cues_of body =
    if nat_lt (length body) 4 then None
    else if nat_lt (length body) (4 + 24 * count_of body) then None
    else Some (points_of (count_of body) (drop 4 body))

-- ---- writing

-- name, position, the id of the chunk that holds the sample, the starts of chunk and block, sample offset
abbrev pub point_bytes : CuePoint → List ℕ
point_bytes p =
    bytes_of Little 4 p.name ++ bytes_of Little 4 p.offset ++ codes "data" ++ bytes_of Little 4 0 ++ bytes_of Little 4 0
    ++ bytes_of Little 4 p.offset

-- the body that holds these points
unfoldable pub cue_body : List CuePoint → List ℕ
cue_body points = bytes_of Little 4 (length points) ++ flat_map point_bytes points

-- a point at each place, with the names from one number on
abbrev pub named : ℕ → List ℕ → List CuePoint
named name [] = []
named name (place ∷ places) = record { name = name; offset = place } ∷ named (name + 1) places
