-- How an error of a call below is told.
use Rattle.snd_meta.specs.declared.error.MetaError.{MetaError}
use Rattle.snd_meta.specs.declared.error.MetaError.TheVariants.{Memory}
use Rattle.snd_edits.specs.declared.error.GetError.{GetError}
use Rattle.snd_edits.specs.declared.error.GetError.TheVariants as get
use Rattle.snd_edits.specs.declared.error.PieceReadError.{PieceReadError}
use Rattle.snd_edits.specs.declared.error.PieceReadError.TheVariants as piece_read
use Rattle.snd_edits.specs.declared.tag_error.TagError.{TagError}
use Rattle.snd_edits.specs.declared.tag_error.TagError.TheVariants.{Get, BadBody}

abbrev pub read_error : PieceReadError → GetError
read_error (piece_read.Broken step) = get.Broken step
read_error (piece_read.DiskFault step) = get.DiskFault step

-- a body that does not read, or no memory for what it says
abbrev pub body_error : MetaError → TagError
body_error Memory = Get get.Memory
body_error other = BadBody
