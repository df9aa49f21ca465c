use Rattle.std.proofs.Common.{◌≡◌, ◌∙◌, ◌+◌, ◌≤◌, ℕ, List, [], ◌∷◌, Option, Some, Ok, length, slice_get, get_or, take, true, false, rules, arith, ap, sym, subst}
use Rattle.std.proofs.lemmas.List.{take_all}
use Rattle.std.proofs.lemmas.Option.{get_or_from_slice_get, slice_get_within}
use Rattle.snd_disk.proofs.Public.{goes_on_then}
use Rattle.snd_inputs.proofs.Public.{asks_next, each_front, each_then, input_at, length-inputs, none_bad, one_more, reads_then}
use Rattle.snd_inputs.specs.Asking.{AsksForEach}
use Rattle.snd_inputs.specs.Inputs.{input_in, is_bad}
use Rattle.snd_output.proofs.Public.{changed_as}
use Rattle.snd_layout.specs.Shape.{Shape, room}
use Rattle.snd_edits.specs.Editing.{Editing}
use Rattle.snd_file.specs.Handle.{codec_of, disk_of, known_of}
use Rattle.snd_tools.specs.Done.{Said}
use Rattle.snd_concat.specs.Concat.{all_frames, all_numbers, numbers_for, shapes_of}
use Rattle.snd_concat.proofs.Doing.{refused_not_ok}
use Rattle.snd_concat.proofs.Gains.{gains_same, gains_then, made_later, made_then}
use Rattle.snd_concat.proofs.Joined.{follows_at, frames_next, numbers_next}
use Rattle.snd_concat.proofs.append.append_all.Goals as goal

pub append_input-requires-clause-is_in : goal.append_input-requires-clause-is_in
append_input-requires-clause-is_in g c =
    let name = c.in-Some.name.now in
    let there : slice_get c.args.names.now c.loop-at.at ≡ Some name = search rules in
    let here : get_or c.args.names.now c.loop-at.at name ≡ name = get_or_from_slice_get c.args.names.now c.loop-at.at name name there in
    c.loop-at.invariant.reads.back name
    ∙ subst (λ (n : List ℕ). (g.S.Shelf.state c.args.shelf.now).out n ≡ false) here (c.requires.are_in c.loop-at.at name (slice_get_within c.args.names.now c.loop-at.at name there))

pub append_input-requires-clause-at_end : goal.append_input-requires-clause-at_end
append_input-requires-clause-at_end g c = c.loop-at.invariant.made.0

pub given-requires : goal.given-requires
given-requires g c = c.loop-at.invariant.made.0

pub append_input-requires-clause-room : goal.append_input-requires-clause-room
append_input-requires-clause-room g c = c.requires.room ∙ sym (ap (λ (h : Shape). room h) c.loop-at.invariant.made.1)

pub returns-in_err-append_input-clause-reads : goal.returns-in_err-append_input-clause-reads
returns-in_err-append_input-clause-reads g c = reads_then g.S.Shelf _ _ _ c.loop-at.invariant.reads c.append_input.ensures.reads

pub returns-in_err-append_input-clause-left : goal.returns-in_err-append_input-clause-left
returns-in_err-append_input-clause-left g c =
    made_later (known_of c.args.to.now) (known_of c.loop-at.to) (known_of c.append_input.new.to) c.in_err-append_input.field-0.0 c.from_residual.result (search rules) c.loop-at.invariant.made c.in_err-append_input.ensures.left

pub returns-in_err-append_input-clause-changed : goal.returns-in_err-append_input-clause-changed
returns-in_err-append_input-clause-changed g c =
    changed_as _ _ c.in_err-append_input.field-0.0 c.from_residual.result (search rules)
    (λ bad files es told all good.
    let name = c.in-Some.name.now in
    let at = c.loop-at.at in
    let there : slice_get c.args.names.now at ≡ Some name = search rules in
    let mid = c.loop-at.invariant.reads.files files told in
    let this = input_at files c.args.names.now es at name all there in
    let opened : input_in (mid.0 name) ≡ Ok this.0 = ap (λ (o : Option (List ℕ)). input_in o) (mid.2 name) ∙ this.2 in
    let sound : is_bad this.0 ≡ false = ap is_bad (sym (get_or_from_slice_get es at this.0 this.0 this.1)) ∙ none_bad es good at this.0 (slice_get_within es at this.0 this.1) in
    let no : true ≡ false = sym (bad mid.0 this.0 mid.1 opened) ∙ sound in
    absurd (cc))
    c.in_err-append_input.ensures.changed

pub returns-in-Err-clause-reads : goal.returns-in-Err-clause-reads
returns-in-Err-clause-reads g c = reads_then g.S.Shelf _ _ _ c.loop-at.invariant.reads c.append_input.ensures.reads

pub returns-in-Err-clause-appended : goal.returns-in-Err-clause-appended
returns-in-Err-clause-appended g c = λ files es told all follow.
    let name = c.in-Some.name.now in
    let there : slice_get c.args.names.now c.loop-at.at ≡ Some name = search rules in
    let mid = c.loop-at.invariant.reads.files files told in
    let before = c.loop-at.invariant.so_far files es told all follow in
    let next = follows_at files mid.0 c.args.names.now es c.loop-at.at name (known_of c.args.to.now) (known_of c.loop-at.to) all there (mid.2 name) c.numbers_of.ensures.frames c.loop-at.invariant.made.1 before.0 follow in
    absurd (refused_not_ok c.in_ok-append_input.field-0 c.in-Err.why c.in-Err.is (c.in_ok-append_input.ensures.appended mid.0 next.0 mid.1 next.2 next.3).0)

pub loop-at-preserved : goal.loop-at-preserved
loop-at-preserved g c =
    let old = c.args.to.now in
    let now = c.loop-at.to in
    let new = c.append_input.new.to in
    let name = c.in-Some.name.now in
    let there : slice_get c.args.names.now c.loop-at.at ≡ Some name = search rules in
    let inv = c.loop-at.invariant in
    record {
      made = made_then (known_of old) (known_of now) (known_of new) inv.made c.in_ok-append_input.ensures.left;
      loan = c.append_input.ensures.to_loan ∙ inv.loan;
      reads = reads_then g.S.Shelf _ _ _ inv.reads c.append_input.ensures.reads;
      calm = c.in_ok-append_input.ensures.faults.1 ∙ inv.calm;
      to_calm = c.in_ok-append_input.ensures.faults.0 ∙ inv.to_calm;
      asked = subst (λ (l : List (List ℕ)). AsksForEach 1 16384 g.S.Shelf.state l c.args.shelf.now c.append_input.new.shelf) (sym (one_more c.args.names.now c.loop-at.at name there))
          (each_then g.S.Shelf.state 1 16384 (take c.loop-at.at c.args.names.now) (name ∷ []) c.args.shelf.now c.loop-at.shelf c.append_input.new.shelf inv.reads.files inv.asked c.append_input.ensures.asked);
      unasked = c.append_input.ensures.unasked ∙ inv.unasked;
      tells = record { told = c.append_input.ensures.tells.told ∙ inv.tells.told; name = c.append_input.ensures.tells.name ∙ inv.tells.name };
      time = goes_on_then (g.E.Disk.state (disk_of old)).clock (g.E.Disk.state (disk_of now)).clock (g.E.Disk.state (disk_of new)).clock (g.E.Disk.left_between (disk_of old)) (g.E.Disk.left_between (disk_of now)) (g.E.Disk.left_between (disk_of new))
          inv.time c.append_input.ensures.time;
      so_far = λ files es told all follow.
          let mid = inv.reads.files files told in
          let before = inv.so_far files es told all follow in
          let next = follows_at files mid.0 c.args.names.now es c.loop-at.at name (known_of old) (known_of now) all there (mid.2 name) c.numbers_of.ensures.frames inv.made.1 before.0 follow in
          let done = c.in_ok-append_input.ensures.appended mid.0 next.0 mid.1 next.2 next.3 in
          let same : numbers_for (codec_of now) next.0 ≡ numbers_for (codec_of old) next.0 = ap (λ (h : Shape). numbers_for h.params.codec next.0) inv.made.1 in
          let more = gains_same g.E.Disk.state (numbers_for (codec_of now) next.0) (numbers_for (codec_of old) next.0) now new same done.2 in (
            omega (arith, done.1, before.0, frames_next es c.loop-at.at next.0 next.1),
            gains_same g.E.Disk.state _ (all_numbers (codec_of old) (take (c.loop-at.at + 1) es)) old new (sym (numbers_next es c.loop-at.at next.0 next.1 (codec_of old)))
                (gains_then g.E.Disk.state (all_numbers (codec_of old) (take c.loop-at.at es)) (numbers_for (codec_of old) next.0) old now new before.1 more),
          );
    }

pub returns-clause-appended : goal.returns-clause-appended
returns-clause-appended g c = λ files es told all follow.
    let old = c.args.to.now in
    let now = c.loop-at.to in
    let before = c.loop-at.invariant.so_far files es told all follow in
    let past : length c.args.names.now ≤ c.loop-at.at = search rules in
    let whole : take c.loop-at.at es ≡ es = take_all c.loop-at.at es (omega (arith, past, length-inputs files c.args.names.now es all)) in
    let counted : c.given.result ≡ (known_of old).write_place + all_frames (shapes_of es) =
    c.given.ensures ∙ before.0 ∙ ap (λ (l : List Editing). (known_of old).write_place + all_frames (shapes_of l)) whole in
    (ap Said.made counted, gains_same g.E.Disk.state (all_numbers (codec_of old) (take c.loop-at.at es)) (all_numbers (codec_of old) es) old now (ap (all_numbers (codec_of old)) whole) before.1)

pub returns-in_err-append_input-clause-asked : goal.returns-in_err-append_input-clause-asked
returns-in_err-append_input-clause-asked g c =
    let there : slice_get c.args.names.now c.loop-at.at ≡ Some c.in-Some.name.now = search rules in
    asks_next g.S.Shelf.state 1 16384 c.args.names.now c.loop-at.at c.in-Some.name.now there c.args.shelf.now c.loop-at.shelf c.append_input.new.shelf c.loop-at.invariant.reads.files c.loop-at.invariant.asked c.append_input.ensures.asked

pub returns-in-Err-clause-asked : goal.returns-in-Err-clause-asked
returns-in-Err-clause-asked g c =
    let there : slice_get c.args.names.now c.loop-at.at ≡ Some c.in-Some.name.now = search rules in
    asks_next g.S.Shelf.state 1 16384 c.args.names.now c.loop-at.at c.in-Some.name.now there c.args.shelf.now c.loop-at.shelf c.append_input.new.shelf c.loop-at.invariant.reads.files c.loop-at.invariant.asked c.append_input.ensures.asked

pub returns-clause-asked : goal.returns-clause-asked
returns-clause-asked g c = each_front g.S.Shelf.state 1 16384 c.args.names.now c.loop-at.at c.args.shelf.now c.loop-at.shelf c.loop-at.invariant.asked
