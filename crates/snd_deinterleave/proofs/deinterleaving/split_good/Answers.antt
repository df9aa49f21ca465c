use Rattle.std.proofs.Common.{rules, ◌≡◌, ◌∙◌, ap, sym, subst, refl, ℕ, List, Err, true, false, length, arith}
use Rattle.snd_disk.proofs.Public.{only_reads_then}
use Rattle.snd_edits.specs.Known.{Known}
use Rattle.snd_file.specs.Handle.{known_of}
use Rattle.snd_inputs.proofs.Copying.{counts_then}
use Rattle.snd_inputs.proofs.Reading.{reads_itself}
use Rattle.snd_inputs.specs.Inputs.{is_bad}
use Rattle.snd_inputs.specs.Opening.{IsUnread}
use Rattle.snd_layout.specs.Shape.{Shape}
use Rattle.snd_lines.specs.declared.refusal.Refusal.TheVariants.{BadBlock}
use Rattle.snd_output.proofs.Public.{changed_err, unchanged_as}
use Rattle.snd_tools.specs.Shelves.{HasFiles}
use Rattle.snd_deinterleave.specs.Among.{ChangesAmong}
use Rattle.snd_deinterleave.specs.Deinterleave.{file_of, made_if_good}
use Rattle.snd_deinterleave.specs.Making.{AreIn}
use Rattle.snd_deinterleave.specs.Outputs.{puts}
use Rattle.snd_deinterleave.proofs.Counting.{asks_all, asks_checked}
use Rattle.snd_deinterleave.proofs.Firsts.{all_of}
use Rattle.snd_deinterleave.proofs.Leaving.{reads_among}
use Rattle.snd_deinterleave.proofs.Splitting.{all_made, all_refused, bad_is, still_split}
use Rattle.snd_deinterleave.proofs.deinterleaving.split_good.Goals as goal

-- ---- it cannot be told whether a block is bad

pub returns-in_err-bad-clause-changes : goal.returns-in_err-bad-clause-changes
returns-in_err-bad-clause-changes g c = reads_among g.S.Shelf c.args.outputs.now c.args.shelf.now c.args.shelf.now (reads_itself g.S.Shelf c.args.shelf.now)

pub returns-in_err-bad-clause-changed : goal.returns-in_err-bad-clause-changed
returns-in_err-bad-clause-changed g c = unchanged_as _ c.in_err-bad.field-0.0 c.from_residual.result (search rules) c.in_err-bad.ensures.unchanged

pub returns-in_err-bad-clause-asked : goal.returns-in_err-bad-clause-asked
returns-in_err-bad-clause-asked g c = asks_checked (length c.args.outputs.now) (known_of c.args.file.now).shape _ _ c.requires.some c.has_bad_block.ensures.asked

-- ---- one is

pub returns-then-bad-clause-done : goal.returns-then-bad-clause-done
returns-then-bad-clause-done g c = λ files e told stands.
    let bad : is_bad e ≡ true = search (rules, c.in_ok-bad.ensures.found e stands) in
    all_refused g.S.Shelf.state c.args.shelf.now files c.args.input.now BadBlock (made_if_good c.args.input.now c.args.outputs.now c.args.kind c.args.params e) (files, told, λ n. refl)
    (bad_is c.args.input.now c.args.outputs.now c.args.kind c.args.params e bad)

pub returns-then-bad-clause-changes : goal.returns-then-bad-clause-changes
returns-then-bad-clause-changes g c = reads_among g.S.Shelf c.args.outputs.now c.args.shelf.now c.args.shelf.now (reads_itself g.S.Shelf c.args.shelf.now)

pub returns-then-bad-clause-asked : goal.returns-then-bad-clause-asked
returns-then-bad-clause-asked g c = asks_checked (length c.args.outputs.now) (known_of c.args.file.now).shape _ _ c.requires.some c.has_bad_block.ensures.asked

-- ---- none is

pub make_first-requires-clause-all_in : goal.make_first-requires-clause-all_in
make_first-requires-clause-all_in g c =
    subst (λ (l : List (List ℕ)). AreIn l (g.S.Shelf.state c.args.shelf.now)) (sym (all_of c.args.outputs.now c.len-count.result c.len-count.ensures)) c.requires.all_in

pub make_first-requires-clause-unread : goal.make_first-requires-clause-unread
make_first-requires-clause-unread g c = subst IsUnread (sym c.in_ok-bad.ensures.same) c.requires.unread

pub make_first-requires-clause-channels : goal.make_first-requires-clause-channels
make_first-requires-clause-channels g c =
    omega (arith, c.len-count.ensures, c.requires.channels, ap (λ (k : Known). k.shape.params.channels) c.in_ok-bad.ensures.same)

pub make_first-requires-clause-split : goal.make_first-requires-clause-split
make_first-requires-clause-split g c = still_split c.args.kind c.args.params _ _ c.in_ok-bad.ensures.same c.requires.split

pub returns-in-Ok-clause-done : goal.returns-in-Ok-clause-done
returns-in-Ok-clause-done g c = λ files e told stands.
    let outputs = c.args.outputs.now in
    let good : is_bad e ≡ false = search (rules, c.in_ok-bad.ensures.found e stands) in
    let frames : c.frames-frames.result ≡ e.shape.frames = c.frames-frames.ensures ∙ ap (λ (h : Shape). h.frames) stands.shape in
    all_made g.S.Shelf.state c.make_first.new.shelf files c.args.input.now outputs c.args.kind c.args.params e c.frames-frames.result frames good
    (subst (λ (l : List (List ℕ)). HasFiles g.S.Shelf.state c.make_first.new.shelf (puts l (file_of c.args.kind c.args.params e) 0 files)) (all_of outputs c.len-count.result c.len-count.ensures)
    (c.in-Ok.ensures.made files e told (c.has_bad_block.ensures.stands e stands)))

pub returns-in-Ok-clause-changes : goal.returns-in-Ok-clause-changes
returns-in-Ok-clause-changes g c =
    subst (λ (l : List (List ℕ)). ChangesAmong g.S.Shelf l c.args.shelf.now c.make_first.new.shelf) (all_of c.args.outputs.now c.len-count.result c.len-count.ensures) c.make_first.ensures.changes

pub returns-in-Err-clause-changes : goal.returns-in-Err-clause-changes
returns-in-Err-clause-changes g c =
    subst (λ (l : List (List ℕ)). ChangesAmong g.S.Shelf l c.args.shelf.now c.make_first.new.shelf) (all_of c.args.outputs.now c.len-count.result c.len-count.ensures) c.make_first.ensures.changes

pub returns-in-Err-clause-faults : goal.returns-in-Err-clause-faults
returns-in-Err-clause-faults g c = counts_then {T = Unit {0}} (Err c.in-Err.stop) _ _ _ _ _ _ c.in_ok-bad.ensures.faults refl c.in-Err.ensures.faults

pub returns-in-Err-clause-changed : goal.returns-in-Err-clause-changed
returns-in-Err-clause-changed g c =
    changed_err _ _ c.in-Err.stop
    (λ changed e stands.
    let good : is_bad e ≡ false = search (rules, c.in_ok-bad.ensures.found e stands) in
    let no : true ≡ false = sym (changed e (c.has_bad_block.ensures.stands e stands)) ∙ good in
    absurd (cc))
    c.in-Err.ensures.changed

pub returns-in-Ok-clause-reads : goal.returns-in-Ok-clause-reads
returns-in-Ok-clause-reads g c = only_reads_then _ _ _ _ _ _ _ _ _ c.has_bad_block.ensures.reads c.make_first.ensures.reads

pub returns-in-Err-clause-reads : goal.returns-in-Err-clause-reads
returns-in-Err-clause-reads g c = only_reads_then _ _ _ _ _ _ _ _ _ c.has_bad_block.ensures.reads c.make_first.ensures.reads

pub returns-in-Ok-clause-asked : goal.returns-in-Ok-clause-asked
returns-in-Ok-clause-asked g c =
    asks_all (length c.args.outputs.now) c.len-count.result (known_of c.args.file.now) (known_of c.has_bad_block.new.file) _ _ _ c.requires.some c.len-count.ensures c.in_ok-bad.ensures.same c.has_bad_block.ensures.asked c.make_first.ensures.asked

pub returns-in-Err-clause-asked : goal.returns-in-Err-clause-asked
returns-in-Err-clause-asked g c =
    asks_all (length c.args.outputs.now) c.len-count.result (known_of c.args.file.now) (known_of c.has_bad_block.new.file) _ _ _ c.requires.some c.len-count.ensures c.in_ok-bad.ensures.same c.has_bad_block.ensures.asked c.make_first.ensures.asked
