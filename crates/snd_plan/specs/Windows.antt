-- Bytes of a file that were read: parts of it, each a place and the bytes that stand from there on.
use Rattle.std.specs.Prelude.{ℕ, ◌+◌, List, length, map, take, drop, All, Bool, nat_le, ◌&&◌}
use Rattle.std.specs.List.{list_any}
use Rattle.snd_disk.specs.Runs.{HasAt}
use Rattle.snd_plan.specs.declared.windows.Window.{Window}
use Rattle.snd_plan.specs.declared.windows.Windows.{Windows}

-- whether n bytes from a place on lie in one part, and in one of a list
abbrev pub is_within : ℕ → ℕ → ℕ × List ℕ → Bool
is_within at n p = nat_le p.0 at && nat_le (at + n) (p.0 + length p.1)

abbrev pub are_held : List (ℕ × List ℕ) → ℕ → ℕ → Bool
are_held ps at n = list_any (is_within at n) ps

-- the file has a part, and all of a list
abbrev pub HasPart : List ℕ → ℕ × List ℕ → Type 0
HasPart b p = HasAt b p.0 p.1

abbrev pub HasParts : List ℕ → List (ℕ × List ℕ) → Type 0
HasParts b ps = All (HasPart b) ps

-- parts as they are kept: beside a tape, which has the bytes of all
abbrev pub part_of : List ℕ → Window → ℕ × List ℕ
part_of tape w = (w.at, take w.len (drop w.from tape))

abbrev pub parts : Windows → List (ℕ × List ℕ)
parts w = map (part_of w.bytes.items) w.list.items

-- whether n bytes from a place on lie in a part that is kept so
abbrev pub holds : ℕ → ℕ → Window → Bool
holds at n w = nat_le w.at at && nat_le (at + n) (w.at + w.len)
