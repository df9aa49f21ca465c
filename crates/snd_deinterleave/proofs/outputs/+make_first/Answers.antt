use Rattle.std.proofs.Common.{rules, ◌≡◌, ◌∙◌, ap, sym, subst, refl, ℕ, ◌+◌, ◌-◌, ◌<◌, ◌≤◌, [], Err, Some, length, slice_get, take, arith}
use Rattle.std.proofs.lemmas.Option.{slice_get_within}
use Rattle.std.proofs.lemmas.Result.{on_ok_weaker}
use Rattle.std.specs.Prelude.{unwrap_or}
use Rattle.snd_disk.proofs.Public.{only_reads_then}
use Rattle.snd_edits.specs.Known.{Known}
use Rattle.snd_file.specs.Handle.{known_of}
use Rattle.snd_inputs.proofs.Public.{still_told}
use Rattle.snd_inputs.proofs.Reading.{reads_itself}
use Rattle.snd_inputs.specs.Opening.{IsUnread}
use Rattle.snd_output.proofs.Public.{if_changed, unchanged_as}
use Rattle.snd_deinterleave.specs.Deinterleave.{file_of}
use Rattle.snd_deinterleave.specs.Making.{AreIn}
use Rattle.snd_deinterleave.specs.Outputs.{puts}
use Rattle.snd_deinterleave.proofs.Counting.{asks_fewer, asks_more, asks_nothing, counts_made, counts_stopped}
use Rattle.snd_deinterleave.proofs.Firsts.{first_among, first_puts, last_among, others_in}
use Rattle.snd_deinterleave.proofs.Leaving.{one_among, reads_among}
use Rattle.snd_deinterleave.proofs.Splitting.{still_split}
use Rattle.snd_deinterleave.proofs.outputs.+make_first.Goals as goal

-- ---- there is none

pub returns-then-count-eq0-clause-made : goal.returns-then-count-eq0-clause-made
returns-then-count-eq0-clause-made g t c = λ files e told stands.
    let none : c.args.count ≡ 0 = search rules in (
      files,
      told,
      λ n. sym (ap (λ (k : ℕ). puts (take k c.args.outputs.now) (file_of c.args.kind c.args.params e) 0 files n) none),
    )

pub returns-then-count-eq0-clause-rewound : goal.returns-then-count-eq0-clause-rewound
returns-then-count-eq0-clause-rewound g t c = record { known = refl; stands = λ e stands. stands }

pub returns-then-count-eq0-clause-changes : goal.returns-then-count-eq0-clause-changes
returns-then-count-eq0-clause-changes g t c = reads_among g.S.Shelf (take c.args.count c.args.outputs.now) c.args.shelf.now c.args.shelf.now (reads_itself g.S.Shelf c.args.shelf.now)

pub returns-then-count-eq0-clause-asked : goal.returns-then-count-eq0-clause-asked
returns-then-count-eq0-clause-asked g t c = asks_nothing _ _ _ refl

-- ---- the last one is taken out

pub take_output-requires : goal.take_output-requires
take_output-requires g t c =
    let last = c.args.count - 1 in
    let more : c.args.count ≡ last + 1 = search (rules, arith) in
    let there : slice_get c.args.outputs.now last ≡ Some c.in-Some.name.now = search rules in
    c.requires.all_in c.in-Some.name.now (last_among c.args.outputs.now last c.args.count c.in-Some.name.now more there)

pub returns-in_err-disk-clause-changes : goal.returns-in_err-disk-clause-changes
returns-in_err-disk-clause-changes g t c =
    let last = c.args.count - 1 in
    let more : c.args.count ≡ last + 1 = search (rules, arith) in
    let there : slice_get c.args.outputs.now last ≡ Some c.in-Some.name.now = search rules in
    one_among g.S.Shelf (take c.args.count c.args.outputs.now) c.in-Some.name.now _ _ (last_among c.args.outputs.now last c.args.count c.in-Some.name.now more there) c.in_err-disk.ensures.changes

pub returns-in_err-disk-clause-changed : goal.returns-in_err-disk-clause-changed
returns-in_err-disk-clause-changed g t c = unchanged_as _ c.in_err-disk.field-0.0 c.from_residual.result (search rules) c.in_err-disk.ensures.unchanged

pub returns-in_err-disk-clause-asked : goal.returns-in_err-disk-clause-asked
returns-in_err-disk-clause-asked g t c = asks_nothing _ _ _ refl

-- ---- the others are made

pub make_first-requires : goal.make_first-requires
make_first-requires g t c κs within =
    let outputs = c.args.outputs.now in
    let last = c.args.count - 1 in
    let more : c.args.count ≡ last + 1 = search (rules, arith) in
    let there : slice_get outputs last ≡ Some c.in-Some.name.now = search rules in
    let less : last < t = omega (arith, c.decreases, more) in
    let few : last ≤ length outputs = omega (arith, slice_get_within outputs last c.in-Some.name.now there) in
    let out : AreIn (take last outputs) (g.S.Shelf.state c.take_output.new.shelf) =
    others_in outputs last c.args.count c.in-Some.name.now more there c.requires.apart (g.S.Shelf.state c.args.shelf.now) (g.S.Shelf.state c.take_output.new.shelf) c.in_ok-disk.ensures.out.takes.out c.requires.all_in in (
      less,
      (within.0, (within.1.0, (within.1.1, (few, (c.requires.apart, (out, (c.requires.unread, (omega (arith, more, c.requires.channels), c.requires.split)))))))),
    )

pub returns-in-Err-clause-changes : goal.returns-in-Err-clause-changes
returns-in-Err-clause-changes g t c =
    let last = c.args.count - 1 in
    let more : c.args.count ≡ last + 1 = search (rules, arith) in
    let name = c.in-Some.name.now in
    let there : slice_get c.args.outputs.now last ≡ Some name = search rules in
    let out = c.in_ok-disk.ensures.out in
    first_among c.args.outputs.now last c.args.count name more there c.requires.apart g.S.Shelf g.S.Disk.Disk c.args.shelf.now c.take_output.new.shelf c.make_first.new.shelf c.give-in-Err.new.self c.in_ok-disk.disk c.in_ok-disk.disk
    out.takes c.make_first.ensures.changes c.give-in-Err.ensures.given out.images c.give-in-Err.ensures.images out.others c.give-in-Err.ensures.others
    (record { later = omega arith; same = λ s u x le left. left; kept = λ s u x left. left })
    (c.requires.all_in name (last_among c.args.outputs.now last c.args.count name more there)) (λ b told. (b, told))

pub returns-in-Err-clause-faults : goal.returns-in-Err-clause-faults
returns-in-Err-clause-faults g t c =
    counts_stopped {T = Unit {0}} (Err c.in-Err.stop) _ _ _ _ _ _ _ c.in_ok-disk.ensures.faults c.in_ok-disk.ensures.out.takes.fresh.0 c.in-Err.ensures.faults c.give-in-Err.ensures.given.faults

pub returns-in-Err-clause-asked : goal.returns-in-Err-clause-asked
returns-in-Err-clause-asked g t c =
    let last = c.args.count - 1 in
    let more : c.args.count ≡ last + 1 = search (rules, arith) in
    asks_fewer last c.args.count (known_of c.args.file.now).shape _ _ more c.make_first.ensures.asked

-- ---- and it is made

pub make-made-requires-clause-unread : goal.make-made-requires-clause-unread
make-made-requires-clause-unread g t c = subst IsUnread (sym c.in-Ok.ensures.rewound.known) c.requires.unread

pub make-made-requires-clause-within : goal.make-made-requires-clause-within
make-made-requires-clause-within g t c =
    let last = c.args.count - 1 in
    let more : c.args.count ≡ last + 1 = search (rules, arith) in
    omega (arith, more, c.requires.channels, ap (λ (k : Known). k.shape.params.channels) c.in-Ok.ensures.rewound.known)

pub make-made-requires-clause-split : goal.make-made-requires-clause-split
make-made-requires-clause-split g t c = still_split c.args.kind c.args.params _ _ c.in-Ok.ensures.rewound.known c.requires.split

pub returns-in-Ok-clause-made : goal.returns-in-Ok-clause-made
returns-in-Ok-clause-made g t c =
    let last = c.args.count - 1 in
    let more : c.args.count ≡ last + 1 = search (rules, arith) in
    let name = c.in-Some.name.now in
    let there : slice_get c.args.outputs.now last ≡ Some name = search rules in
    let out = c.in_ok-disk.ensures.out in
    on_ok_weaker c.make-made.result
    (λ makes files e told stands.
    let mid = out.takes.files files told in
    first_puts c.args.outputs.now last c.args.count name more there c.requires.apart g.S.Shelf g.S.Disk.Disk c.args.shelf.now c.take_output.new.shelf c.make_first.new.shelf c.give.new.self c.in_ok-disk.disk c.make-made.new.disk
    out.takes c.make_first.ensures.changes c.give.ensures.given (file_of c.args.kind c.args.params e) files told
    (makes (unwrap_or (files name) []) e (out.takes.contents files told) (c.in-Ok.ensures.rewound.stands e stands))
    (c.in-Ok.ensures.made mid.0 e mid.1 stands))
    c.make-made.ensures.made

pub returns-in-Ok-clause-rewound : goal.returns-in-Ok-clause-rewound
returns-in-Ok-clause-rewound g t c =
    on_ok_weaker c.make-made.result
    (λ back. record {
      known = back.known ∙ c.in-Ok.ensures.rewound.known;
      stands = λ e stands. back.stands e (c.in-Ok.ensures.rewound.stands e stands);
    })
    c.make-made.ensures.rewound

pub returns-in-Ok-clause-changes : goal.returns-in-Ok-clause-changes
returns-in-Ok-clause-changes g t c =
    let last = c.args.count - 1 in
    let more : c.args.count ≡ last + 1 = search (rules, arith) in
    let name = c.in-Some.name.now in
    let there : slice_get c.args.outputs.now last ≡ Some name = search rules in
    let out = c.in_ok-disk.ensures.out in
    first_among c.args.outputs.now last c.args.count name more there c.requires.apart g.S.Shelf g.S.Disk.Disk c.args.shelf.now c.take_output.new.shelf c.make_first.new.shelf c.give.new.self c.in_ok-disk.disk c.make-made.new.disk
    out.takes c.make_first.ensures.changes c.give.ensures.given out.images c.give.ensures.images out.others c.give.ensures.others c.make-made.ensures.time
    (c.requires.all_in name (last_among c.args.outputs.now last c.args.count name more there)) (λ b told. still_told _ _ b c.make-made.ensures.tells told)

pub returns-in-Ok-clause-faults : goal.returns-in-Ok-clause-faults
returns-in-Ok-clause-faults g t c =
    counts_made c.make-made.result _ _ _ _ _ _ _ _ _ c.in_ok-disk.ensures.faults c.in-Ok.ensures.faults.0 c.in-Ok.ensures.faults.1 c.in_ok-disk.ensures.out.takes.fresh.0 c.make-made.ensures.faults c.give.ensures.given.faults

pub returns-in-Ok-clause-changed : goal.returns-in-Ok-clause-changed
returns-in-Ok-clause-changed g t c =
    if_changed _ _ c.make-made.result (λ bad e stands. bad e (c.in-Ok.ensures.rewound.stands e stands)) c.make-made.ensures.changed

pub returns-in-Ok-clause-reads : goal.returns-in-Ok-clause-reads
returns-in-Ok-clause-reads g t c = only_reads_then _ _ _ _ _ _ _ _ _ c.make_first.ensures.reads c.make-made.ensures.reads

pub returns-in-Ok-clause-asked : goal.returns-in-Ok-clause-asked
returns-in-Ok-clause-asked g t c =
    let last = c.args.count - 1 in
    let more : c.args.count ≡ last + 1 = search (rules, arith) in
    asks_more last c.args.count (known_of c.args.file.now) (known_of c.make_first.new.file) _ _ _ more c.in-Ok.ensures.rewound.known c.make_first.ensures.asked c.make-made.ensures.asked
