-- Files that are made, before their first frame: what their disk holds.
use Rattle.std.specs.Prelude.{◌≡◌, true}
use Rattle.snd_disk.specs.State.{State}
use Rattle.snd_layout.specs.Kinds.{holds_pieces}
use Rattle.snd_layout.specs.Shape.{Shape}
use Rattle.snd_container.specs.Put.{HoldsHead}

-- where the kind is given chunks, a disk holds nothing but the head of a layout, without frames
abbrev pub HasHead : State → Shape → Type 0
HasHead disk h = holds_pieces h.kind ≡ true → ∥ HoldsHead disk h ∥₁
