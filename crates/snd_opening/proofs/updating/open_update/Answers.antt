use Rattle.std.proofs.Common.{rules, refl, ◌≡◌, ◌∙◌, true, false}
use Rattle.snd_layout.specs.Blocks.{is_adpcm}
use Rattle.snd_edits.specs.Editing.{first_editing}
use Rattle.snd_edits.proofs.Public.{is_fixed, update_adpcm, update_ok, update_open}
use Rattle.snd_opening.proofs.AtRest.{opens_at_rest}
use Rattle.snd_opening.proofs.Opened.{refused_update}
use Rattle.snd_opening.proofs.updating.open_update.Goals as goal

pub returns-in-Err-clause-opened : goal.returns-in-Err-clause-opened
returns-in-Err-clause-opened g c = refused_update g.D.Disk.state c.args.disk.now _ _ c.in-Err.error c.in-Err.ensures.faults c.in-Err.ensures.opened

pub returns-then-is_adpcm-clause-opened : goal.returns-then-is_adpcm-clause-opened
returns-then-is_adpcm-clause-opened g c = λ b told.
    let blocks : is_adpcm c.in-Ok.layout.params.codec ≡ true = search rules in
    update_adpcm b c.in-Ok.layout (c.in-Ok.ensures.opened b told) blocks

pub returns-then-layout-clause-opened : goal.returns-then-layout-clause-opened
returns-then-layout-clause-opened g c = λ b told.
    let blocks : is_adpcm c.in-Ok.layout.params.codec ≡ false = search rules in
    let open_end : c.in-Ok.layout.unknown_length ≡ true = search rules in
    update_open b c.in-Ok.layout (c.in-Ok.ensures.opened b told) blocks open_end

pub returns-clause-opened : goal.returns-clause-opened
returns-clause-opened g c = λ b told.
    let blocks : is_adpcm c.in-Ok.layout.params.codec ≡ false = search rules in
    let closed_end : c.in-Ok.layout.unknown_length ≡ false = search rules in (
      first_editing b c.in-Ok.layout,
      update_ok b c.in-Ok.layout (c.in-Ok.ensures.opened b told) blocks closed_end,
      c.at_first_frame.ensures.stands b (c.open_layout.ensures.reads.keeps.contents ∙ told),
    )

pub returns-clause-rests : goal.returns-clause-rests
returns-clause-rests g c = opens_at_rest g.D.Disk c.args.disk.now _ refl (returns-clause-opened g c) (search rules)

pub at_first_frame-requires-clause-linear : goal.at_first_frame-requires-clause-linear
at_first_frame-requires-clause-linear g c = λ writes.
    let blocks : is_adpcm c.in-Ok.layout.params.codec ≡ false = search rules in
    is_fixed c.in-Ok.layout.params.codec blocks
