-- The bodies of the further chunks of a file lie apart in it.
use Rattle.std.specs.Prelude.{◌≡◌, ℕ, ◌≤◌, List, Ok, length, true}
use Rattle.snd_container.specs.Sound.{layout_of}
use Rattle.snd_layout.specs.Shape.{Shape}
use Rattle.snd_layout.specs.Kinds.{holds_meta}
use Rattle.snd_carry.specs.Carried.{body_bytes, carried_pieces}

-- so that in a WAVE or RF64 file they have no more bytes in all than the file
abbrev pub BodiesFit : Type 0
BodiesFit = (b : List ℕ) (h : Shape) → layout_of b ≡ Ok h → holds_meta h.kind ≡ true → body_bytes h.pieces ≤ length b

-- .. and those that are carried have no more
abbrev pub CarriedFit : Type 0
CarriedFit = (b : List ℕ) (h : Shape) → layout_of b ≡ Ok h → holds_meta h.kind ≡ true → body_bytes (carried_pieces h.pieces) ≤ length b
