-- What `convert` does: the whole file that it makes, or what it refuses. It refuses in this order: equal names; an unknown suffix
-- of the output; the input; its rack, by the stages that are there and by its places; what it is to become; more data than the head
-- has room for; and a bad block of the input.
use Rattle.std.specs.Prelude.{ℕ, ℤ, Bool, ◌&&◌, List, [], Option, Some, None, Result, Ok, Err, if◌then◌else◌}
use Rattle.std.specs.Str.{bytes_eq}
use Rattle.snd_carry.specs.Carried.{carried}
use Rattle.snd_chunks.specs.Written.{NewChunk}
use Rattle.snd_disk.specs.Shelf.{Files}
use Rattle.snd_layout.specs.Shape.{room}
use Rattle.snd_layout.specs.declared.kind.Kind.{Kind}
use Rattle.snd_layout.specs.declared.refusal.OpenRefusal.{OpenRefusal}
use Rattle.snd_inputs.specs.Inputs.{input_in, is_bad}
use Rattle.snd_inputs.specs.Rooms.{exceeds}
use Rattle.snd_lines.specs.declared.refusal.Refusal.{Refusal}
use Rattle.snd_lines.specs.declared.refusal.Refusal.TheVariants.{BadBlock, BadPlace, ContainerFull, NoSuchStage, Open, SameName, UnknownSuffix}
use Rattle.snd_edits.specs.Editing.{Editing}
use Rattle.snd_layout.specs.Kinds.{holds_meta}
use Rattle.snd_edits.specs.Relaid.{shape_with}
use Rattle.snd_output.specs.Made.{made_file}
use Rattle.snd_rack.specs.Boxes.{has_boxes}
use Rattle.snd_rack.specs.Rack.{bad_place, channels_after}
use Rattle.snd_rack.specs.Stage.{Stated}
use Rattle.snd_rack.specs.declared.setting.StageKind.{StageKind}
use Rattle.snd_racking.specs.Racked.{racked_numbers}
use Rattle.snd_words.specs.Asked.{Converting}
use Rattle.snd_words.specs.Suffix.{kind_by_suffix}
use Rattle.snd_tools.specs.Done.{Done}
use Rattle.snd_convert.specs.Plan.{Planned, planned}

-- the numbers of all frames, once they have passed the items of a rack, in the width of the codec that is made
abbrev pub numbers_for : List Stated → Planned → Editing → List ℤ
numbers_for items plan e = racked_numbers items e.shape.params.codec plan.params.codec e.frames

-- the further chunks that go with them: between WAVE and RF64 those that a copy carries, and else none
abbrev pub carries : Kind → Kind → Bool
carries to from = holds_meta to && holds_meta from

abbrev pub chunks_for : Planned → Editing → List NewChunk
chunks_for plan e = if carries plan.kind e.shape.kind then carried e.bytes e.shape.pieces else []

-- the file that is made of both
abbrev pub file_made : List Stated → Planned → Editing → List ℕ
file_made items plan e = made_file plan.kind plan.params (chunks_for plan e) (numbers_for items plan e)

-- the head with these chunks has no room for the frames
abbrev pub is_full : Planned → Editing → Bool
is_full plan e = exceeds plan.kind plan.params (room (shape_with plan.kind plan.params (chunks_for plan e))) e.shape.frames

abbrev pub made_if_good : Converting → Planned → Editing → Done
made_if_good c plan e = if is_bad e then Done.refuses c.input BadBlock else Done.makes c.output (file_made c.rack plan e) e.shape.frames

abbrev pub made_of : Converting → Planned → Editing → Done
made_of c plan e = if is_full plan e then Done.refuses c.output ContainerFull else made_if_good c plan e

abbrev pub done_by_plan : Converting → Editing → Result Planned OpenRefusal → Done
done_by_plan c e (Err why) = Done.refuses c.output (Open why)
done_by_plan c e (Ok plan) = made_of c plan e

-- how many channels frames with so many have behind a rack, for whose stages these boxes are there; or why they pass none
abbrev pub behind_rack : List StageKind → List Stated → ℕ → Result ℕ Refusal
behind_rack kinds items channels =
    if has_boxes items kinds then (if bad_place items channels then Err BadPlace else Ok (channels_after items channels)) else Err NoSuchStage

abbrev pub done_behind : Converting → Kind → Editing → Result ℕ Refusal → Done
done_behind c kind e (Err why) = Done.refuses c.input why
done_behind c kind e (Ok channels) = done_by_plan c e (planned c kind channels e.shape.params)

abbrev pub done_with : List StageKind → Converting → Kind → Result Editing Refusal → Done
done_with kinds c kind (Err why) = Done.refuses c.input why
done_with kinds c kind (Ok e) = done_behind c kind e (behind_rack kinds c.rack e.shape.params.channels)

abbrev pub done_into : List StageKind → Converting → Option Kind → Files → Done
done_into kinds c None files = Done.refuses c.output UnknownSuffix
done_into kinds c (Some kind) files = done_with kinds c kind (input_in (files c.input))

-- The first argument is the kinds of the boxes that are there.
abbrev pub converted : List StageKind → Converting → Files → Done
converted kinds c files = if bytes_eq c.input c.output then Done.refuses c.output SameName else done_into kinds c (kind_by_suffix c.output) files
