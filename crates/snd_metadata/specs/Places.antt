-- Where the INFO list stands among the chunks of a plan, and the chunks of the file that is made.
use Rattle.std.specs.Prelude.{◌≡◌, ℕ, Bool, List, IfSome, Vec, map, slice_get}
use Rattle.std.specs.List.{position_or_len}
use Rattle.std.specs.declared.alloc.Global.{Global}
use Rattle.snd_disk.specs.declared.disk.Disk.{Ghosts}
use Rattle.snd_disk.specs.State.{State}
use Rattle.snd_file.specs.declared.handle.File.{File}
use Rattle.snd_edits.specs.declared.mode.Mode.{Ghosts as ModeGhosts}
use Rattle.snd_edits.specs.Editing.{Editing}
use Rattle.snd_file.specs.Handle.{Stands}
use Rattle.snd_tags.specs.Bodies.{begins_info}
use Rattle.snd_metadata.specs.Chunks.{is_info_list, kept_chunks, with_extension, with_info_list}
use Rattle.snd_metadata.specs.Planned.{chunk_planned}
use Rattle.snd_metadata.specs.declared.bodies.Bodies.{Bodies}
use Rattle.snd_metadata.specs.declared.chunks.PlannedChunk.{PlannedChunk}
use Rattle.snd_metadata.specs.declared.settings.Summary.{Summary}

-- whether the body of the chunk at a place begins with `INFO`, and whether a chunk is an INFO list
abbrev pub SaysInfo : ℕ → Editing → Bool → Type 0
SaysInfo place e says = IfSome (slice_get e.shape.pieces place) (λ piece. says ≡ begins_info e.bytes piece)

abbrev pub SaysInfoList : PlannedChunk → Editing → Bool → Type 0
SaysInfoList chunk e says = says ≡ is_info_list (chunk_planned e.bytes chunk)

-- the place of the first INFO list, or how many chunks there are
abbrev pub IsInfoPlace : List PlannedChunk → Editing → ℕ → Type 0
IsInfoPlace plan e at = at ≡ position_or_len is_info_list (map (chunk_planned e.bytes) plan)

-- an INFO list of this body was put among the chunks, where it is changed
abbrev pub PutsInfoList : {D M : Type 0} {d : Ghosts D} {m : ModeGhosts M}
    → (D → State) → File D M d m → Bool → List ℕ → Vec PlannedChunk Global → Vec PlannedChunk Global → Type 0
PutsInfoList state file changed body old new =
    (e : Editing) → Stands state file e → map (chunk_planned e.bytes) new.items ≡ with_info_list changed body (map (chunk_planned e.bytes) old.items)

-- the chunks that are kept, with those that are changed
abbrev pub HasChunks : Summary → Bodies → Editing → Vec PlannedChunk Global → Type 0
HasChunks summary bodies e plan =
    map (chunk_planned e.bytes) plan.items
    ≡ with_info_list summary.texts bodies.texts.items (with_extension summary.fields bodies.extension.items (kept_chunks e.bytes e.shape.pieces))
