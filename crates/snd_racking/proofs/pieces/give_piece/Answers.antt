use Rattle.std.proofs.Common.{◌≡◌, ◌∙◌, ap, sym, subst, ◌≤◌, ℤ, List, OnOk, length, map, arith}
use Rattle.std.proofs.lemmas.List.{length-map}
use Rattle.snd_edits.specs.Reading.{FitCodec}
use Rattle.snd_file.specs.Handle.{codec_of, known_of}
use Rattle.snd_layout.specs.declared.codec.Codec.{Codec}
use Rattle.snd_output.specs.Appended.{Gains}
use Rattle.snd_output.specs.Widths.{change_numbers, width_of}
use Rattle.snd_pcm.specs.Width.{changed}
use Rattle.snd_rack.specs.Held.{Held}
use Rattle.snd_racking.specs.Appending.{passed_groups}
use Rattle.snd_racking.proofs.Passed.{each_may_pass, passed_fit, passed_left, passed_may, passed_room, refilled}
use Rattle.snd_racking.proofs.pieces.give_piece.Goals as goal

pub pass_frames-requires-clause-may : goal.pass_frames-requires-clause-may
pass_frames-requires-clause-may g c =
    let hs : List Held = map (λ b. (goal.Stage-dyn g (b.vtable, b.value)).stage b.value) c.args.stages.now in
    each_may_pass c.args.codec c.args.channels hs c.args.numbers.now (known_of c.args.to.now) c.requires.may

pub pass_frames-requires-clause-room : goal.pass_frames-requires-clause-room
pass_frames-requires-clause-room g c =
    let hs : List Held = map (λ b. (goal.Stage-dyn g (b.vtable, b.value)).stage b.value) c.args.stages.now in
    passed_room c.args.codec c.args.channels hs c.args.numbers.now (known_of c.args.to.now) c.requires.may c.requires.fits

pub change_numbers-requires : goal.change_numbers-requires
change_numbers-requires g c =
    let hs : List Held = map (λ b. (goal.Stage-dyn g (b.vtable, b.value)).stage b.value) c.args.stages.now in
    let is : c.as_mut_slice.result.now ≡ passed_groups c.args.channels hs c.args.numbers.now = c.as_mut_slice.ensures.value ∙ c.pass_frames.ensures.frames in
    subst (λ (l : List ℤ). FitCodec c.args.codec l) (sym is) (passed_fit c.args.codec c.args.channels hs c.args.numbers.now (known_of c.args.to.now) c.requires.may)

pub give-requires : goal.give-requires
give-requires g c =
    let hs : List Held = map (λ b. (goal.Stage-dyn g (b.vtable, b.value)).stage b.value) c.args.stages.now in
    let to = known_of c.args.to.now in
    let wanted = c.numbers_of-wanted.result.1 in
    let passed = c.as_mut_slice.result.now in
    let is : passed ≡ passed_groups c.args.channels hs c.args.numbers.now = c.as_mut_slice.ensures.value ∙ c.pass_frames.ensures.frames in
    let size : length c.change_numbers.new.numbers ≡ length c.pass_frames.new.into.items =
    ap length c.change_numbers.ensures.changed ∙ length-map passed (changed (width_of c.args.codec) (width_of wanted)) ∙ ap length c.as_mut_slice.ensures.value in
    let shown : c.as_slice.result.now ≡ c.change_numbers.new.numbers = c.as_slice.ensures.value ∙ refilled (length c.pass_frames.new.into.items) c.pass_frames.new.into.items c.change_numbers.new.numbers size in
    let some : 1 ≤ to.shape.params.channels = omega (arith, c.numbers_of-wanted.ensures.channels, c.numbers_of-wanted.ensures.some) in
    record {
      may = passed_may c.args.codec c.args.channels hs c.args.numbers.now to c.requires.may some wanted passed c.as_slice.result.now is (shown ∙ c.change_numbers.ensures.changed) c.numbers_of-wanted.ensures.codec
          (subst (λ (l : List ℤ). FitCodec wanted l) (sym shown) c.change_numbers.ensures.in_range);
    }

pub returns-clause-left : goal.returns-clause-left
returns-clause-left g c =
    let hs : List Held = map (λ b. (goal.Stage-dyn g (b.vtable, b.value)).stage b.value) c.args.stages.now in
    let to = known_of c.args.to.now in
    let wanted = c.numbers_of-wanted.result.1 in
    let passed = c.as_mut_slice.result.now in
    let is : passed ≡ passed_groups c.args.channels hs c.args.numbers.now = c.as_mut_slice.ensures.value ∙ c.pass_frames.ensures.frames in
    let size : length c.change_numbers.new.numbers ≡ length c.pass_frames.new.into.items =
    ap length c.change_numbers.ensures.changed ∙ length-map passed (changed (width_of c.args.codec) (width_of wanted)) ∙ ap length c.as_mut_slice.ensures.value in
    let shown : c.as_slice.result.now ≡ c.change_numbers.new.numbers = c.as_slice.ensures.value ∙ refilled (length c.pass_frames.new.into.items) c.pass_frames.new.into.items c.change_numbers.new.numbers size in
    let some : 1 ≤ to.shape.params.channels = omega (arith, c.numbers_of-wanted.ensures.channels, c.numbers_of-wanted.ensures.some) in
    passed_left c.args.codec c.args.channels hs c.args.numbers.now to c.requires.may some wanted passed c.as_slice.result.now is (shown ∙ c.change_numbers.ensures.changed) (known_of c.give.new.to) c.give.result c.give.ensures.left

pub returns-clause-gains : goal.returns-clause-gains
returns-clause-gains g c =
    let hs : List Held = map (λ b. (goal.Stage-dyn g (b.vtable, b.value)).stage b.value) c.args.stages.now in
    let to = known_of c.args.to.now in
    let wanted = c.numbers_of-wanted.result.1 in
    let passed = c.as_mut_slice.result.now in
    let is : passed ≡ passed_groups c.args.channels hs c.args.numbers.now = c.as_mut_slice.ensures.value ∙ c.pass_frames.ensures.frames in
    let size : length c.change_numbers.new.numbers ≡ length c.pass_frames.new.into.items =
    ap length c.change_numbers.ensures.changed ∙ length-map passed (changed (width_of c.args.codec) (width_of wanted)) ∙ ap length c.as_mut_slice.ensures.value in
    let shown : c.as_slice.result.now ≡ c.change_numbers.new.numbers = c.as_slice.ensures.value ∙ refilled (length c.pass_frames.new.into.items) c.pass_frames.new.into.items c.change_numbers.new.numbers size in
    let are : c.as_slice.result.now ≡ change_numbers c.args.codec (codec_of c.args.to.now) (passed_groups c.args.channels hs c.args.numbers.now) =
    shown ∙ c.change_numbers.ensures.changed ∙ ap (change_numbers c.args.codec wanted) is ∙ ap (λ (q : Codec). change_numbers c.args.codec q (passed_groups c.args.channels hs c.args.numbers.now)) c.numbers_of-wanted.ensures.codec in
    subst (λ (l : List ℤ). OnOk c.give.result (Gains g.E.Disk.state l c.args.to.now c.give.new.to)) are c.give.ensures.gains
