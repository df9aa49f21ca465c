use Rattle.std.proofs.Common.{◌∙◌, ℤ, List, [], sym, refl, subst}
use Rattle.std.proofs.lemmas.Result.{on_ok_weaker}
use Rattle.snd_file.specs.Handle.{codec_of, known_of}
use Rattle.snd_inputs.proofs.Public.{asks_to_copy, counts_appended, still_works}
use Rattle.snd_layout.specs.declared.kind.Kind.TheVariants.{Wave}
use Rattle.snd_output.specs.Appended.{left_in}
use Rattle.snd_output.specs.Made.{IsMaking}
use Rattle.snd_salvage.proofs.Making.{never_changed, numbers_same}
use Rattle.snd_salvage.proofs.make.fill.Goals as goal

pub returns-clause-fills : goal.returns-clause-fills
returns-clause-fills g c =
    on_ok_weaker c.append.result
    (λ lengthens p r e stands to_stands making.
    let longer = lengthens Wave p [] [] r e stands to_stands making in
    let numbers = numbers_same r (codec_of c.args.from.now) (codec_of c.args.to.now) c.requires.alike (sym stands.place ∙ c.requires.unread.first) in
    (longer.0, longer.1, subst (λ (l : List ℤ). IsMaking Wave p [] l longer.0) numbers longer.2))
    c.append.ensures.lengthens

pub returns-clause-copies : goal.returns-clause-copies
returns-clause-copies g c = record {
  loan = c.append.ensures.loan;
  to_loan = c.append.ensures.to_loan;
  works = still_works c.append.result (left_in (known_of c.args.from.now)) (known_of c.args.from.now) (known_of c.append.new.from) (known_of c.args.to.now) (known_of c.append.new.to) _ _ _ _ c.append.ensures.left c.append.ensures.faults c.requires.may.at_end.working;
  faults = counts_appended c.append.result _ _ _ _ c.append.ensures.faults;
  reads = c.append.ensures.reads;
  tells = c.append.ensures.tells;
  time = c.append.ensures.time;
}

pub returns-clause-unchanged : goal.returns-clause-unchanged
returns-clause-unchanged g c =
    never_changed c.append.result (left_in (known_of c.args.from.now)) (known_of c.args.from.now) (known_of c.append.new.from) (known_of c.args.to.now) (known_of c.append.new.to) c.requires.is_fixed c.append.ensures.left

pub returns-clause-asked : goal.returns-clause-asked
returns-clause-asked g c = asks_to_copy (known_of c.args.from.now) 16384 _ _ c.requires.unread refl c.append.ensures.asked
