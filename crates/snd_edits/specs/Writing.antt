-- The length of a file to which frames are written, and what its head declares then.
use Rattle.std.specs.Prelude.{◌≢◌, ℕ, ◌+◌, ◌≤◌, Bool, List, ℤ, length, max, nat_lt, if◌then◌else◌}
use Rattle.snd_layout.specs.Params.{data_bytes}
use Rattle.snd_layout.specs.Shape.{Shape, end}
use Rattle.snd_layout.specs.declared.kind.Kind.TheVariants.{Voc}
use Rattle.snd_container.specs.Values.{closed_end}
use Rattle.snd_edits.specs.Edits.{coded}

-- the length, once what closes the data of n frames stands behind them, where these are more than there were
abbrev pub closed_size : ℕ → Shape → ℕ → ℕ
closed_size size h n = if nat_lt h.frames n then max size (closed_end h n) else size

-- the length, once the bytes of numbers stand over the data from a frame on, too
abbrev pub put_size : ℕ → Shape → ℕ → List ℤ → ℕ → ℕ
put_size size h place xs n = closed_size (max size (end h place + length (coded h.params xs))) h n

-- what closes the data of n frames is there, and the head declares no more than these; a Creative Voice file, which has a
-- single field, may declare more
pub record IsKeptUp (h : Shape) (n size : ℕ) : Type 0 where
  pub closed : closed_end h n ≤ size
  pub declared : h.kind ≢ Voc → h.declared ≤ data_bytes h.params n

-- the bytes that bring the head up, where that is automatic
abbrev pub most_fields : Bool → ℕ
most_fields automatic = if automatic then 64 else 0
