-- Late chunks in files of every kind that keeps chunks beside its sound.
use Rattle.std.specs.Prelude.{◌≡◌, ℕ, true, List, Option}
pub use Rattle.snd_chunks.specs.Late.{late_bytes, outer_to}
use Rattle.snd_chunks.specs.Late.{LateReadsBack, late_shape as shape_with_late}
use Rattle.snd_chunks.specs.Written.{NewChunk}
use Rattle.snd_layout.specs.Kinds.{holds_pieces}
use Rattle.snd_layout.specs.Shape.{Shape}
use Rattle.snd_layout.specs.declared.kind.Kind.{Kind}
use Rattle.snd_container.specs.Put.{MayBePieceOf, heads_for}
use Rattle.snd_container.specs.Values.{any}

-- the layout of a file that is closed with late chunks
abbrev pub late_shape : Shape → List NewChunk → Shape
late_shape h late = shape_with_late (any h.kind) h late

-- What is closed with late chunks reads back, for each of these kinds, with a reservation and without.
abbrev pub LateChunksReadBack : Type 0
LateChunksReadBack = (r : Option ℕ) (kind : Kind) → holds_pieces kind ≡ true → LateReadsBack (MayBePieceOf kind) (any kind) (heads_for r kind)
