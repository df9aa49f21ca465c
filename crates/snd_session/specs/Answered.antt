-- How a call on the chunks of an open file is answered, by how it ended.
use Rattle.std.specs.Prelude.{◌≡◌, ℕ, List, Vec, Bool, true, false, Result, Ok, Err}
use Rattle.std.specs.declared.alloc.Global.{Global}
use Rattle.snd_disk.specs.declared.streams.Sink.{Ghosts as SinkMeaning}
use Rattle.snd_layout.specs.declared.error.PieceError.{PieceError}
use Rattle.snd_layout.specs.declared.error.PieceError.TheVariants as piece_error
use Rattle.snd_layout.specs.declared.refusal.OpenRefusal.TheVariants.{TooManyChunks}
use Rattle.snd_edits.specs.declared.error.GetError.TheVariants as get
use Rattle.snd_tags.specs.declared.error.SetError.{SetError}
use Rattle.snd_tags.specs.declared.error.SetError.TheVariants as set_error
use Rattle.snd_edits.specs.declared.tag_error.TagError.{TagError}
use Rattle.snd_edits.specs.declared.tag_error.TagError.TheVariants.{Get, BadBody}
use Rattle.snd_rules.specs.Replies.{Answer, refuses, says, done_line}
use Rattle.snd_rules.specs.Stepped.{Says, IsSent}
use Rattle.snd_rules.specs.declared.reply.Reply.{Reply}
use Rattle.snd_rules.specs.declared.reply.StepFault.{StepFault}
use Rattle.snd_rules.specs.declared.reply.StepFault.TheVariants.{Disk, Memory}
use Rattle.snd_lines.specs.declared.refusal.Refusal.{Refusal}
use Rattle.snd_lines.specs.declared.refusal.Refusal.TheVariants.{AutoOn, ChunkTooLarge, ContainerFull, FramesWritten, NoChunks, NoSuchChunk, Open, ReservedChunk, TextTooLong}

-- an answer was sent
pub record Sends {O : Type 0} (o : SinkMeaning O) (answer : Answer) (result : Result Reply StepFault) (out out' : O) : Type 0 where
  pub said : Says o.told answer result out out'
  pub sent : IsSent result (o.faults out) (o.faults out')

-- .. or nothing was said, for want of memory or after a fault of the disk
abbrev pub SaysNothing : {O : Type 0} → StepFault → Result Reply StepFault → O → O → Type 0
SaysNothing fault result out out' = (result ≡ Err fault) × (out' ≡ out)

-- the bytes of a text, where there was memory for it
abbrev pub gathered : {E : Type 0} → Result (Vec ℕ Global) E → Result (List ℕ) E
gathered (Ok text) = Ok text.items
gathered (Err error) = Err error

-- a text that was gathered is sent; for none there was no memory
abbrev pub SendsText : {O E : Type 0} → SinkMeaning O → Result (List ℕ) E → Result Reply StepFault → O → O → Type 0
SendsText o (Ok text) result out out' = Sends o (says text) result out out'
SendsText o (Err error) result out out' = SaysNothing Memory result out out'

-- why what a chunk says is not said; the refusal is of a body that does not read
abbrev pub Lacks : {O : Type 0} → SinkMeaning O → Refusal → TagError → Result Reply StepFault → O → O → Type 0
Lacks o bad BadBody result out out' = Sends o (refuses bad) result out out'
Lacks o bad (Get get.NoSuchChunk) result out out' = Sends o (refuses NoSuchChunk) result out out'
Lacks o bad (Get get.ChunkTooLarge) result out out' = Sends o (refuses ChunkTooLarge) result out out'
Lacks o bad (Get (get.DiskFault step)) result out out' = SaysNothing Disk result out out'
Lacks o bad (Get get.Memory) result out out' = SaysNothing Memory result out out'
Lacks o bad (Get (get.Broken step)) result out out' = ⊥

-- the file was not broken
abbrev pub IsWhole : TagError → Bool
IsWhole (Get (get.Broken step)) = false
IsWhole error = true

-- why a chunk is not put, in a script's words; what is no refusal does not come
abbrev pub put_refused : PieceError → Refusal
put_refused piece_error.FramesWritten = FramesWritten
put_refused piece_error.AutoOn = AutoOn
put_refused piece_error.ReservedChunk = ReservedChunk
put_refused piece_error.NoChunks = NoChunks
put_refused piece_error.ChunkTooLarge = ChunkTooLarge
put_refused piece_error.ContainerFull = ContainerFull
put_refused other = Open TooManyChunks

-- how a call that puts a chunk is answered
abbrev pub Puts : {O T : Type 0} → SinkMeaning O → Result T SetError → Result Reply StepFault → O → O → Type 0
Puts o (Ok done) result out out' = Sends o (says done_line) result out out'
Puts o (Err set_error.TextTooLong) result out out' = Sends o (refuses TextTooLong) result out out'
Puts o (Err (set_error.Put (piece_error.DiskFault step))) result out out' = SaysNothing Disk result out out'
Puts o (Err (set_error.Put piece_error.Memory)) result out out' = SaysNothing Memory result out out'
Puts o (Err (set_error.Put (piece_error.Broken step))) result out out' = ⊥
Puts o (Err (set_error.Put error)) result out out' = Sends o (refuses (put_refused error)) result out out'

abbrev pub IsPutWhole : SetError → Bool
IsPutWhole (set_error.Put (piece_error.Broken step)) = false
IsPutWhole error = true
