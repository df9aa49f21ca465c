use Rattle.std.proofs.Common.{◌≡◌, ◌∙◌, ap, ℕ, rules}
use Rattle.snd_inputs.specs.Rooms.{exceeds}
use Rattle.snd_layout.specs.Shape.{Shape, room}
use Rattle.snd_file.specs.Handle.{known_of}
use Rattle.snd_edits.specs.Relaid.{shape_with}
use Rattle.snd_convert.specs.Convert.{chunks_for}
use Rattle.snd_convert.specs.Making.{outlines_for}
use Rattle.snd_convert.specs.Planning.{planned_by}
use Rattle.snd_convert.proofs.converting.is_full.Goals as goal

pub returns-clause-outlines : goal.returns-clause-outlines
returns-clause-outlines g c =
    let plan = planned_by c.args.plan.now in
    let h : Shape = (known_of c.args.file.now).shape in
    let frames : c.from.result ≡ h.frames = search rules in
    c.exceeds_room.ensures
    ∙ ap (λ (n : ℕ). exceeds plan.kind plan.params n c.from.result) (c.room_with-room.ensures (outlines_for plan h) c.chunks_size-chunks.ensures.outlines)
    ∙ ap (λ (n : ℕ). exceeds plan.kind plan.params (room (shape_with plan.kind plan.params (outlines_for plan h))) n) frames

pub returns-clause-told : goal.returns-clause-told
returns-clause-told g c = λ e stands.
    let plan = planned_by c.args.plan.now in
    let known : c.from.result ≡ (known_of c.args.file.now).shape.frames = search rules in
    let frames : c.from.result ≡ e.shape.frames = known ∙ ap (λ (h : Shape). h.frames) stands.shape in
    c.exceeds_room.ensures
    ∙ ap (λ (n : ℕ). exceeds plan.kind plan.params n c.from.result) (c.room_with-room.ensures (chunks_for plan e) (c.chunks_size-chunks.ensures.told e stands))
    ∙ ap (λ (n : ℕ). exceeds plan.kind plan.params (room (shape_with plan.kind plan.params (chunks_for plan e))) n) frames
