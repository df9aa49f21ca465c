use Rattle.std.proofs.Common.{◌≡◌, ◌∙◌, ap, sym, subst, ℕ, ◌/◌, List, length, rules}
use Rattle.std.proofs.lemmas.Result.{on_ok_weaker}
use Rattle.snd_file.specs.Handle.{channels_of, codec_of, known_of}
use Rattle.snd_output.specs.Widths.{change_numbers}
use Rattle.snd_import.proofs.Carried.{carries_given, carries_read, longer_of}
use Rattle.snd_import.proofs.Gained.{gains_same}
use Rattle.snd_import.specs.Filling.{IsPiece, sound_behind, state_behind}
use Rattle.snd_import.proofs.filling.pass_piece.Goals as goal

pub returns-in_err-read_piece-clause-carries : goal.returns-in_err-read_piece-clause-carries
returns-in_err-read_piece-clause-carries g c =
    carries_read g.D.Disk g.E.Disk (length c.args.bytes.now) c.args.disk.now c.read_piece.new.disk c.args.to.now c.in_err-read_piece.field-0.0 c.from_residual.result (search rules) c.requires.takes.at_end.working
    c.in_err-read_piece.ensures.faults c.in_err-read_piece.ensures.unchanged c.read_piece.ensures.reads c.read_piece.ensures.asked

pub give_piece-requires-clause-held : goal.give_piece-requires-clause-held
give_piece-requires-clause-held g c = subst (λ (n : ℕ). IsPiece c.args.source.now (length c.args.numbers.now) n) (sym c.read_piece.auto.into) c.requires.held

pub returns-clause-carries : goal.returns-clause-carries
returns-clause-carries g c =
    carries_given g.D.Disk g.E.Disk (length c.args.bytes.now) (length c.args.numbers.now / channels_of c.args.to.now) c.args.disk.now c.read_piece.new.disk c.args.to.now c.give_piece.new.to c.give_piece.result c.requires.takes.at_end
    c.in_ok-read_piece.ensures.faults c.read_piece.ensures.reads c.read_piece.ensures.asked c.give_piece.ensures.loan c.give_piece.ensures.left c.give_piece.ensures.faults c.give_piece.ensures.tells c.give_piece.ensures.time c.give_piece.ensures.asked

pub returns-clause-longer : goal.returns-clause-longer
returns-clause-longer g c = longer_of c.give_piece.result (length c.args.numbers.now / channels_of c.args.to.now) (known_of c.args.to.now) (known_of c.give_piece.new.to) c.give_piece.ensures.left

pub returns-clause-passed : goal.returns-clause-passed
returns-clause-passed g c =
    let s = c.args.source.now in
    on_ok_weaker c.give_piece.result
    (λ gains b tells.
    let told = c.in_ok-read_piece.ensures.told b tells in (
      c.give_piece.ensures.state ∙ ap (state_behind s.coding c.args.reader.now) told,
      gains_same g.E.Disk.state _ _ c.args.to.now c.give_piece.new.to (ap (λ (l : List ℕ). change_numbers s.params.codec (codec_of c.args.to.now) (sound_behind s.coding s.params.codec c.args.reader.now l)) told) gains,
    ))
    c.give_piece.ensures.gains
