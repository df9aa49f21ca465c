use Rattle.std.proofs.Common.{◌∙◌, ap, sym, subst, refl, ℤ, ◌+◌, List, ◌++◌, Err}
use Rattle.snd_disk.specs.Device.{OnlyReadsOn}
use Rattle.snd_disk.specs.State.{AtMost}
use Rattle.snd_edits.specs.Editing.{Editing, moved_by}
use Rattle.snd_file.specs.Handle.{Stands, disk_of, known_of}
use Rattle.snd_inputs.proofs.Public.{all_ahead, asks_to_copy, counts_appended, still_works}
use Rattle.snd_inputs.specs.Copying.{bytes_to_copy}
use Rattle.snd_output.proofs.Public.{changed_err}
use Rattle.snd_output.specs.Appended.{left_in}
use Rattle.snd_output.specs.Made.{IsMaking}
use Rattle.snd_deinterleave.proofs.ChannelPutting.{channel_whole, known_back, state_back}
use Rattle.snd_deinterleave.proofs.make.fill.Goals as goal

pub rewind-requires : goal.rewind-requires
rewind-requires g c = ap (λ k. k.broken) c.in-Ok.ensures.left.0 ∙ c.requires.unread.working

pub returns-in-Ok-clause-fills : goal.returns-in-Ok-clause-fills
returns-in-Ok-clause-fills g c = λ kind p pieces xs r e reads stands making.
    let longer = c.in-Ok.ensures.lengthens kind p pieces xs r e reads stands making in (
      longer.0,
      longer.1,
      subst (λ (l : List ℤ). IsMaking kind p pieces (xs ++ l) longer.0) (channel_whole c.args.which r (sym reads.place ∙ c.requires.unread.first)) longer.2,
    )

pub returns-in-Ok-clause-rewound : goal.returns-in-Ok-clause-rewound
returns-in-Ok-clause-rewound g c =
    let first = known_of c.args.from.now in
    record {
      known = known_back (left_in first) first (known_of c.append_left.new.from) (known_of c.rewind.new.from) c.requires.unread c.in-Ok.ensures.left.0 c.rewind.ensures.known;
      stands = λ e stands.
          subst (λ (s : Editing). Stands g.D.Disk.state c.rewind.new.from s) (state_back (left_in first) e (sym stands.place ∙ c.requires.unread.first))
          (c.rewind.ensures.stands (moved_by (left_in first) e) (c.in-Ok.ensures.stands e stands));
    }

pub returns-in-Ok-clause-copies : goal.returns-in-Ok-clause-copies
returns-in-Ok-clause-copies g c = record {
  loan = c.rewind.ensures.loan ∙ c.append_left.ensures.loan;
  to_loan = c.append_left.ensures.to_loan;
  works = c.in-Ok.ensures.left.1.working ∙ c.requires.may.at_end.working;
  faults = (ap (λ d. (g.D.Disk.state d).faults) c.rewind.ensures.same_disk ∙ c.in-Ok.ensures.faults.0, c.in-Ok.ensures.faults.1);
  reads = subst (λ d. OnlyReadsOn g.D.Disk.state g.D.Disk.may_leave g.D.Disk.left_between (disk_of c.args.from.now) d) (sym c.rewind.ensures.same_disk) c.append_left.ensures.reads;
  tells = c.append_left.ensures.tells;
  time = c.append_left.ensures.time;
}

pub returns-in-Ok-clause-asked : goal.returns-in-Ok-clause-asked
returns-in-Ok-clause-asked g c =
    let k = known_of c.args.from.now in
    subst (λ d. AtMost (g.D.Disk.state (disk_of c.args.from.now)).asked (0 + bytes_to_copy k.shape.params k.shape.frames) (g.D.Disk.state d).asked) (sym c.rewind.ensures.same_disk)
    (asks_to_copy k 16384 _ _ c.requires.unread refl c.append_left.ensures.asked)

pub returns-in-Err-clause-copies : goal.returns-in-Err-clause-copies
returns-in-Err-clause-copies g c = record {
  loan = c.append_left.ensures.loan;
  to_loan = c.append_left.ensures.to_loan;
  works = still_works {T = Unit {0}} (Err c.in-Err.stop) (left_in (known_of c.args.from.now)) (known_of c.args.from.now) (known_of c.append_left.new.from) (known_of c.args.to.now) (known_of c.append_left.new.to) _ _ _ _
      c.in-Err.ensures.left c.in-Err.ensures.faults c.requires.may.at_end.working;
  faults = counts_appended {T = Unit {0}} (Err c.in-Err.stop) _ _ _ _ c.in-Err.ensures.faults;
  reads = c.append_left.ensures.reads;
  tells = c.append_left.ensures.tells;
  time = c.append_left.ensures.time;
}

pub returns-in-Err-clause-changed : goal.returns-in-Err-clause-changed
returns-in-Err-clause-changed g c =
    changed_err _ _ c.in-Err.stop (λ bad e stands. all_ahead e (sym stands.place ∙ c.requires.unread.first) (bad e stands)) c.in-Err.ensures.changed

pub returns-in-Err-clause-asked : goal.returns-in-Err-clause-asked
returns-in-Err-clause-asked g c = asks_to_copy (known_of c.args.from.now) 16384 _ _ c.requires.unread refl c.append_left.ensures.asked
