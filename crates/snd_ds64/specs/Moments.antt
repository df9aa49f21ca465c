-- What a crash may leave of a file while it is promoted: x is what is left, b the contents at the start, h what the file says of
-- itself, n the number of its frames. The order of the two writes is this library's own rule.
use Rattle.std.specs.Prelude.{ℕ, ◌-◌, List}
use Rattle.snd_disk.specs.Runs.{IsPatching}
use Rattle.snd_layout.specs.Shape.{Shape}
use Rattle.snd_ds64.specs.Promoted.{new_front, new_size}

-- x is b, but for the first 48 bytes, which lie in one sector and so are old or new as a whole, and the four before the data, which
-- are old unless the first are new
abbrev pub IsPromoting : List ℕ → Shape → ℕ → List ℕ → Type 0
IsPromoting b h n x = IsPatching b 0 (new_front h n) (h.start - 4) new_size x
