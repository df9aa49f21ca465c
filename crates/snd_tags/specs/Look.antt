-- How a body is read off a disk.
use Rattle.std.specs.Prelude.{◌<◌}
use Rattle.snd_layout.specs.declared.piece.Piece.{Piece}
use Rattle.snd_edits.specs.declared.error.GetError.TheVariants as get
use Rattle.snd_edits.specs.declared.tag_error.TagError.{TagError}
use Rattle.snd_edits.specs.declared.tag_error.TagError.TheVariants.{Get}

-- why the body of a chunk is not read: it has more than 65536 bytes, or the disk or memory fails
abbrev pub IsBodyRefusal : Piece → TagError → Type 0
IsBodyRefusal piece (Get get.ChunkTooLarge) = 65536 < piece.len
IsBodyRefusal piece (Get (get.DiskFault step)) = Unit {0}
IsBodyRefusal piece (Get get.Memory) = Unit {0}
IsBodyRefusal piece other = ⊥
