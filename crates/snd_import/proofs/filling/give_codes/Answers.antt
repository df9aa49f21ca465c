use Rattle.std.proofs.Common.{◌≡◌, ◌∙◌, ap, sym, subst, ℕ, ◌*◌, ◌/◌, ◌≤◌, ℤ, List, length, rules, arith}
use Rattle.std.proofs.lemmas.Result.{on_ok_weaker}
use Rattle.snd_fields.specs.declared.field.Order.TheVariants.{Little}
use Rattle.snd_file.specs.Handle.{channels_of, codec_of, known_of}
use Rattle.snd_layout.specs.declared.codec.Codec.{Codec}
use Rattle.snd_layout.specs.declared.codec.Codec.TheVariants.{S16}
use Rattle.snd_edits.specs.Reading.{FitCodec}
use Rattle.snd_output.proofs.Public.{may_give, width_fits}
use Rattle.snd_output.specs.Appended.{LeavesFile}
use Rattle.snd_output.specs.Widths.{change_numbers}
use Rattle.snd_import.proofs.Gained.{gains_same}
use Rattle.snd_import.proofs.filling.give_codes.Goals as goal

pub change_numbers-requires : goal.change_numbers-requires
change_numbers-requires g c = width_fits (S16 Little) c.read_codes.new.numbers c.read_codes.ensures.in_range

pub give-requires : goal.give-requires
give-requires g c =
    let to = known_of c.args.to.now in
    let n = length c.args.numbers.now in
    let ys = c.change_numbers.new.numbers in
    let wanted : c.wanted.inside.codec ≡ codec_of c.args.to.now = search rules in
    let size : length ys ≡ n = c.change_numbers.auto.numbers ∙ c.read_codes.auto.numbers in
    let times : n * channels_of c.args.to.now ≡ n = ap (λ (m : ℕ). n * m) c.requires.mono ∙ (let e : n * 1 ≡ n = omega arith in e) in
    let some : 1 ≤ channels_of c.args.to.now = omega (arith, c.requires.mono) in
    record { may = may_give ys n to some (size ∙ sym times) c.requires.at_end c.requires.room (subst (λ (q : Codec). FitCodec q ys) wanted c.change_numbers.ensures.in_range) }

pub returns-clause-left : goal.returns-clause-left
returns-clause-left g c =
    let size : length c.change_numbers.new.numbers ≡ length c.args.numbers.now = c.change_numbers.auto.numbers ∙ c.read_codes.auto.numbers in
    subst (λ (m : ℕ). LeavesFile (m / channels_of c.args.to.now) c.args.to.now c.give.new.to c.give.result) size c.give.ensures.left

pub returns-clause-gains : goal.returns-clause-gains
returns-clause-gains g c =
    let wanted : c.wanted.inside.codec ≡ codec_of c.args.to.now = search rules in
    let numbers = c.change_numbers.ensures.changed ∙ ap (λ (q : Codec). change_numbers (S16 Little) q c.read_codes.new.numbers) wanted ∙ ap (change_numbers (S16 Little) (codec_of c.args.to.now)) c.read_codes.ensures.numbers in
    on_ok_weaker c.give.result (λ gains. gains_same g.E.Disk.state c.change_numbers.new.numbers _ c.args.to.now c.give.new.to numbers gains) c.give.ensures.gains
