use Rattle.std.proofs.Common.{rules, ◌≡◌, ◌∙◌, ap, subst, inl, inr, ℕ, [], ◌++◌, List, Some, Err}
use Rattle.snd_disk.proofs.Public.{goes_on_then}
use Rattle.snd_disk.specs.Device.{GoesOnFrom}
use Rattle.snd_inputs.proofs.Public.{begun_as, begun_at_end, begun_room, told_as}
use Rattle.snd_layout.specs.Params.{Parameters}
use Rattle.snd_layout.specs.Shape.{Shape}
use Rattle.snd_layout.specs.declared.codec.Codec.{Codec}
use Rattle.snd_file.specs.Handle.{codec_of, disk_of, known_of}
use Rattle.snd_edits.specs.Relaid.{shape_with}
use Rattle.snd_output.specs.Made.{made_file}
use Rattle.snd_interleave.specs.Beside.{frames_from}
use Rattle.snd_interleave.specs.Channels.{CountsWith, bytes_made}
use Rattle.snd_interleave.specs.Interleave.{channels_in}
use Rattle.snd_output.proofs.Public.{fault_only, unchanged_err}
use Rattle.snd_interleave.proofs.Asking.{each_none}
use Rattle.snd_interleave.specs.Asking.{bytes_copied}
use Rattle.snd_interleave.proofs.Making.{counts_not_finished}
use Rattle.snd_interleave.proofs.ChannelNumbers.{most_numbers}
use Rattle.std.proofs.lemmas.Result.{on_ok_weaker}
use Rattle.snd_interleave.proofs.make.make_in.Goals as goal

pub add_frames-added-requires-clause-alike : goal.add_frames-added-requires-clause-alike
add_frames-added-requires-clause-alike g c =
    let begun = begun_as c.args.kind c.args.params c.are_good.ensures c.requires.fits in
    ap (λ (h : Shape). h.params.channels) c.in-Ok.ensures.shape ∙ ap (λ (p : Parameters). p.channels) begun.params ∙ c.requires.alike

pub add_frames-added-requires-clause-at_end : goal.add_frames-added-requires-clause-at_end
add_frames-added-requires-clause-at_end g c =
    begun_at_end c.args.kind c.args.params (shape_with c.args.kind c.args.params []) (known_of c.in-Ok.to) (begun_as c.args.kind c.args.params c.are_good.ensures c.requires.fits) c.in-Ok.ensures.fresh c.in-Ok.ensures.shape

pub add_frames-added-requires-clause-room : goal.add_frames-added-requires-clause-room
add_frames-added-requires-clause-room g c =
    begun_room c.args.kind c.args.params (shape_with c.args.kind c.args.params []) (known_of c.in-Ok.to) (begun_as c.args.kind c.args.params c.are_good.ensures c.requires.fits) c.in-Ok.ensures.fresh c.in-Ok.ensures.shape
    c.args.frames c.requires.room

pub returns-in-Ok-finish-clause-made : goal.returns-in-Ok-finish-clause-made
returns-in-Ok-finish-clause-made g c =
    on_ok_weaker c.add_frames-added.result
    (λ lengthens b es tells hold.
    let p = c.args.params in
    let is = begun_as c.args.kind p c.are_good.ensures c.requires.fits in
    let codec : codec_of c.in-Ok.to ≡ p.codec = ap (λ (h : Shape). h.params.codec) c.in-Ok.ensures.shape ∙ ap (λ (q : Parameters). q.codec) is.params in
    let begun = c.in-Ok.ensures.begun b tells in
    let longer = lengthens c.args.kind p [] [] es begun.0 hold begun.1 begun.2 in
    let whole = c.in-Ok-finish.ensures.made c.args.kind p [] ([] ++ frames_from (channels_in (codec_of c.in-Ok.to) es) 0 c.args.frames) longer.0 longer.1 longer.2 in
    let same : made_file c.args.kind p [] ([] ++ frames_from (channels_in (codec_of c.in-Ok.to) es) 0 c.args.frames) ≡ bytes_made c.args.kind p es =
    ap (λ (q : Codec). made_file c.args.kind p [] (frames_from (channels_in q es) 0 c.args.frames)) codec
    ∙ ap (λ (n : ℕ). made_file c.args.kind p [] (frames_from (channels_in p.codec es) 0 n)) (c.requires.all ∙ most_numbers g.D.Disk.state c.args.inputs.now es p.codec hold) in
    told_as g.E.Disk.state c.in-Ok-finish.back.now _ (bytes_made c.args.kind p es) (search rules) (whole ∙ ap (λ (l : List ℕ). Some l) same))
    c.add_frames-added.ensures.lengthens

pub returns-in-Err-finish-clause-faults : goal.returns-in-Err-finish-clause-faults
returns-in-Err-finish-clause-faults g c =
    let xs = c.args.inputs.now in
    let ys = c.add_frames-added.new.inputs in
    let a = (g.E.Disk.state c.args.disk.now).faults in
    let made = (g.E.Disk.state (disk_of c.add_frames-added.new.to)).faults in
    let counts : CountsWith g.D.Disk.state xs ys a made c.add_frames-added.result = subst (λ (n : ℕ). CountsWith g.D.Disk.state xs ys n made c.add_frames-added.result) c.in-Ok.ensures.faults c.add_frames-added.ensures.faults in
    let cause = c.in-Err-finish.ensures.cause in
    let by = counts_not_finished g.D.Disk.state xs ys a (g.E.Disk.state c.in-Err-finish.back.now).faults made c.add_frames-added.result c.in-Err-finish.stop (known_of c.add_frames-added.new.to)
    c.add_frames-added.ensures.works cause.0 counts
    (elim cause.1 [ inl before ↦ inl (before.0, ap (λ d. (g.E.Disk.state d).faults) before.1) | inr now ↦ inr (now.1, now.2) ]) in
    subst (λ d. CountsWith {T = Unit {0}} g.D.Disk.state xs ys a (g.E.Disk.state d).faults (Err c.in-Err-finish.stop)) (search rules) by

pub returns-in-Err-finish-clause-time : goal.returns-in-Err-finish-clause-time
returns-in-Err-finish-clause-time g c =
    subst (λ d. GoesOnFrom g.E.Disk.state g.E.Disk.left_between c.args.disk.now d) (search rules)
    (goes_on_then _ _ _ _ _ _ (goes_on_then _ _ _ _ _ _ c.in-Ok.ensures.time c.add_frames-added.ensures.time) c.in-Err-finish.ensures.time)

pub returns-in-Err-clause-asked : goal.returns-in-Err-clause-asked
returns-in-Err-clause-asked g c = each_none g.D.Disk.state bytes_copied c.args.inputs.now

pub returns-in-Err-clause-changed : goal.returns-in-Err-clause-changed
returns-in-Err-clause-changed g c = unchanged_err _ c.in-Err.stop c.in-Err.ensures.unchanged

pub returns-in-Err-finish-clause-changed : goal.returns-in-Err-finish-clause-changed
returns-in-Err-finish-clause-changed g c = fault_only _ c.in-Err-finish.stop c.in-Err-finish.ensures.cause.0
