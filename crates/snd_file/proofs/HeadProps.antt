-- Facts of a head, of which any two proofs are the same.
use Rattle.std.proofs.Props.{props}
use Rattle.std.proofs.Common.{List}
use mathlib.Core.Sum.{⊎_set}
use Rattle.snd_chunks.specs.Heads.{Heads, IsHeadIn}
use Rattle.snd_chunks.specs.Written.{NewChunk}
use Rattle.snd_disk.specs.State.{State}
use Rattle.snd_layout.specs.Params.{Parameters}
use Rattle.snd_layout.specs.Shape.{Shape}
use Rattle.snd_file.proofs.HeadLaws.{IsBareHead}

pub bare_prop : (disk : State) (h : Shape) → IsProp (IsBareHead disk h)
bare_prop disk h = hlevel props

shape_set : IsSet Shape
shape_set = hlevel (props, ⊎_set)

pub head_prop : (heads : Heads) (disk : State) (h : Shape) (p : Parameters) (pieces : List NewChunk) → IsProp (heads.may p pieces) → IsProp (IsHeadIn heads disk h p pieces)
head_prop heads disk h p pieces once = hlevel (props, shape_set, ⊎_set, once)
