use Rattle.std.proofs.Common.{rules, ◌≡◌, ◌∙◌, ap, sym, subst, refl, ℕ, ◌+◌, ◌≤◌, List, [], ◌++◌, length, arith}
use Rattle.std.proofs.lemmas.Result.{on_ok_weaker}
use Rattle.snd_blocks.specs.Sound.{frames_in}
use Rattle.snd_disk.proofs.Public.{goes_on_then}
use Rattle.snd_disk.specs.Device.{Tells}
use Rattle.snd_edits.proofs.Public.{count_any}
use Rattle.snd_edits.specs.Editing.{first_editing}
use Rattle.snd_vox.specs.Vox.{vox_start}
use Rattle.snd_output.proofs.Public.{changed_as, if_unchanged, unchanged_as}
use Rattle.snd_export.specs.Coding.{HasChannels, bytes_by, head_made, numbers_at, size_by, target_of}
use Rattle.snd_export.specs.Export.{bytes_made}
use Rattle.snd_export.specs.declared.target.Target.{Target}
use Rattle.snd_export.proofs.Counts.{one_stops, second_ends, second_stops}
use Rattle.snd_export.proofs.Gains.{channels_as, made_as, short_as}
use Rattle.snd_export.proofs.make.make.Goals as goal

pub put_behind-requires-clause-fits : goal.put_behind-requires-clause-fits
put_behind-requires-clause-fits g c =
    let h = c.args.layout.now in
    let head : length c.deref.result.now ≡ length (head_made c.args.form h.params) = ap length c.deref.ensures.0 ∙ ap length (c.head_of-head.ensures ∙ ap (head_made c.args.form) c.params_of-params.ensures) in
    omega (arith, head, short_as c.args.form h c.requires.short)

pub put_frames-requires-clause-channels : goal.put_frames-requires-clause-channels
put_frames-requires-clause-channels g c =
    subst (λ (t : Target). HasChannels t c.args.layout.now) (sym (c.target_of-target.ensures.value ∙ ap (target_of c.args.form) c.codec_of-codec.ensures)) (channels_as c.args.form c.args.layout.now c.requires.mono)

pub put_frames-requires-clause-fits : goal.put_frames-requires-clause-fits
put_frames-requires-clause-fits g c =
    let h = c.args.layout.now in
    let head : length c.head_of-head.result.items ≡ length (head_made c.args.form h.params) = ap length (c.head_of-head.ensures ∙ ap (head_made c.args.form) c.params_of-params.ensures) in
    let size : size_by c.target_of-target.result h ≡ size_by (target_of c.args.form h.params.codec) h = ap (λ (t : Target). size_by t h) (c.target_of-target.ensures.value ∙ ap (target_of c.args.form) c.codec_of-codec.ensures) in
    omega (arith, head, size, short_as c.args.form h c.requires.short)

pub returns-clause-made : goal.returns-clause-made
returns-clause-made g c =
    let h = c.args.layout.now in
    let form = c.args.form in
    let target = c.target_of-target.result in
    on_ok_weaker c.settle.result
    (λ same b x told told'.
    let size = g.met.D.Disk.size_told c.args.from.now b told in
    let count = count_any b h h.kind c.keeps_rules.ensures.rule.fits c.keeps_rules.ensures.params (omega (arith, c.requires.held, size)) in
    let within : length (frames_in b h) ≤ h.frames = omega (arith, count) in
    let emptied = c.in_ok-empty.ensures.emptied.told x told' in
    let headed = c.in_ok-put_behind.ensures.gains.told [] emptied in
    let filled = c.in_ok-put_frames.ensures.gains b c.deref.result.now told headed in
    let all : c.deref.result.now ++ bytes_by target vox_start h.params.codec (numbers_at b h 0 h.frames) ≡ bytes_made form (first_editing b h) =
    ap (λ (l : List ℕ). l ++ bytes_by target vox_start h.params.codec (numbers_at b h 0 h.frames)) (c.deref.ensures.0 ∙ c.head_of-head.ensures ∙ ap (head_made form) c.params_of-params.ensures)
    ∙ ap (λ (t : Target). head_made form h.params ++ bytes_by t vox_start h.params.codec (numbers_at b h 0 h.frames)) (c.target_of-target.ensures.value ∙ ap (target_of form) c.codec_of-codec.ensures)
    ∙ made_as form b h within in
    subst (λ (l : List ℕ). Tells g.E.Disk.state c.settle.new.to l) all (same _ filled)) c.settle.ensures.same

pub returns-clause-faults : goal.returns-clause-faults
returns-clause-faults g c =
    second_ends _ _ _ _ _ c.settle.result c.in_ok-put_frames.ensures.faults.0
    (c.in_ok-put_frames.ensures.faults.1 ∙ c.in_ok-put_behind.ensures.faults ∙ c.in_ok-empty.ensures.faults) c.settle.ensures.faults

pub returns-clause-changed : goal.returns-clause-changed
returns-clause-changed g c = if_unchanged _ c.settle.result c.settle.ensures.unchanged

pub returns-clause-time : goal.returns-clause-time
returns-clause-time g c =
    goes_on_then _ _ _ _ _ _ (goes_on_then _ _ _ _ _ _ (goes_on_then _ _ _ _ _ _ c.empty.ensures.time c.put_behind.ensures.time) c.put_frames.ensures.time) c.settle.ensures.time

pub returns-in_err-empty-clause-faults : goal.returns-in_err-empty-clause-faults
returns-in_err-empty-clause-faults g c = second_stops (Unit {0}) (Unit {0}) c.in_err-empty.field-0.0 c.from_residual.result (search rules) _ _ _ _ _ refl refl c.in_err-empty.ensures.faults

pub returns-in_err-empty-clause-changed : goal.returns-in_err-empty-clause-changed
returns-in_err-empty-clause-changed g c = unchanged_as _ c.in_err-empty.field-0.0 c.from_residual.result (search rules) c.in_err-empty.ensures.unchanged

pub returns-in_err-put_behind-clause-faults : goal.returns-in_err-put_behind-clause-faults
returns-in_err-put_behind-clause-faults g c =
    second_stops (Unit {0}) (Unit {0}) c.in_err-put_behind.field-0.0 c.from_residual-in_err-put_behind.result (search rules) _ _ _ _ _ refl c.in_ok-empty.ensures.faults c.in_err-put_behind.ensures.faults

pub returns-in_err-put_behind-clause-changed : goal.returns-in_err-put_behind-clause-changed
returns-in_err-put_behind-clause-changed g c = unchanged_as _ c.in_err-put_behind.field-0.0 c.from_residual-in_err-put_behind.result (search rules) c.in_err-put_behind.ensures.unchanged

pub returns-in_err-put_behind-clause-time : goal.returns-in_err-put_behind-clause-time
returns-in_err-put_behind-clause-time g c = goes_on_then _ _ _ _ _ _ c.empty.ensures.time c.put_behind.ensures.time

pub returns-in_err-put_frames-clause-faults : goal.returns-in_err-put_frames-clause-faults
returns-in_err-put_frames-clause-faults g c =
    one_stops (Unit {0}) (Unit {0}) c.in_err-put_frames.field-0.0 c.from_residual-in_err-put_frames.result (search rules) _ _ _ _ _ _ refl (c.in_ok-put_behind.ensures.faults ∙ c.in_ok-empty.ensures.faults) c.in_err-put_frames.ensures.faults

pub returns-in_err-put_frames-clause-changed : goal.returns-in_err-put_frames-clause-changed
returns-in_err-put_frames-clause-changed g c = changed_as _ _ c.in_err-put_frames.field-0.0 c.from_residual-in_err-put_frames.result (search rules) (λ bad. bad) c.in_err-put_frames.ensures.changed

pub returns-in_err-put_frames-clause-time : goal.returns-in_err-put_frames-clause-time
returns-in_err-put_frames-clause-time g c = goes_on_then _ _ _ _ _ _ (goes_on_then _ _ _ _ _ _ c.empty.ensures.time c.put_behind.ensures.time) c.put_frames.ensures.time
