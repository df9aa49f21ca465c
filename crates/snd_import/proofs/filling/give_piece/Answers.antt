use Rattle.std.proofs.Common.{◌≡◌, ◌∙◌, ap, sym, subst, ℕ, ◌/◌, length, rules, arith}
use Rattle.std.proofs.lemmas.Result.{on_ok_weaker}
use Rattle.snd_file.specs.Handle.{channels_of, codec_of, known_of}
use Rattle.snd_layout.specs.declared.codec.Codec.{Codec}
use Rattle.snd_edits.specs.Bytes.{numbers_in}
use Rattle.snd_output.specs.Appended.{Gains, HasRoom, bytes_in as samples_size}
use Rattle.snd_output.specs.Widths.{change_numbers}
use Rattle.snd_import.proofs.Pieces.{coded_fits}
use Rattle.snd_import.specs.Filling.{AreNumbersOf, sound_behind, state_behind}
use Rattle.snd_import.specs.declared.source.Coding.{Coding}
use Rattle.snd_import.specs.declared.source.Coding.TheVariants.{Samples, Codes}
use Rattle.snd_import.proofs.filling.give_piece.Goals as goal

pub give_passed-requires-clause-held : goal.give_passed-requires-clause-held
give_passed-requires-clause-held g c =
    let s = c.args.source.now in
    let is : s.coding ≡ Samples = search rules in
    let same : c.source.inside.0.0.codec ≡ s.params.codec = search rules in
    subst (λ (q : Coding). AreNumbersOf q s.params.codec (length c.args.numbers.now) (length c.args.bytes.now)) is c.requires.held
    ∙ ap (λ (q : Codec). samples_size q (length c.args.numbers.now)) (sym same)

pub give_passed-requires-clause-fits : goal.give_passed-requires-clause-fits
give_passed-requires-clause-fits g c = omega (arith, coded_fits (codec_of c.args.to.now) (length c.args.numbers.now) c.requires.takes.fixed c.requires.few, c.requires.fits)

pub returns-in-Samples-clause-gains : goal.returns-in-Samples-clause-gains
returns-in-Samples-clause-gains g c =
    let s = c.args.source.now in
    let is : s.coding ≡ Samples = search rules in
    let same : c.source.inside.0.0.codec ≡ s.params.codec = search rules in
    on_ok_weaker c.give_passed.result
    (λ first. let gains = subst (λ (q : Codec). Gains g.E.Disk.state (change_numbers q (codec_of c.args.to.now) (numbers_in q c.args.bytes.now)) c.args.to.now c.give_passed.new.to) same first in
    subst (λ (q : Coding). Gains g.E.Disk.state (change_numbers s.params.codec (codec_of c.args.to.now) (sound_behind q s.params.codec c.args.reader.now c.args.bytes.now)) c.args.to.now c.give_passed.new.to) (sym is) gains)
    c.give_passed.ensures.gains

pub returns-in-Samples-clause-state : goal.returns-in-Samples-clause-state
returns-in-Samples-clause-state g c =
    let s = c.args.source.now in
    let is : s.coding ≡ Samples = search rules in
    sym (ap (λ (q : Coding). state_behind q c.args.reader.now c.args.bytes.now) is)

pub give_codes-requires-clause-room : goal.give_codes-requires-clause-room
give_codes-requires-clause-room g c =
    let s = c.args.source.now in
    let is : s.coding ≡ Codes = search rules in
    let n = length c.args.numbers.now in
    let one : channels_of c.args.to.now ≡ 1 = sym c.requires.takes.alike ∙ (c.requires.source.codes is).mono in
    let all : n / channels_of c.args.to.now ≡ n = ap (λ (m : ℕ). n / m) one ∙ (let e : n / 1 ≡ n = omega arith in e) in
    subst (λ (m : ℕ). HasRoom m (known_of c.args.to.now)) all c.requires.takes.room

pub give_codes-requires-clause-mono : goal.give_codes-requires-clause-mono
give_codes-requires-clause-mono g c =
    let is : c.args.source.now.coding ≡ Codes = search rules in
    sym c.requires.takes.alike ∙ (c.requires.source.codes is).mono

pub give_codes-requires-clause-held : goal.give_codes-requires-clause-held
give_codes-requires-clause-held g c =
    let s = c.args.source.now in
    let is : s.coding ≡ Codes = search rules in
    subst (λ (q : Coding). AreNumbersOf q s.params.codec (length c.args.numbers.now) (length c.args.bytes.now)) is c.requires.held

pub returns-in-Codes-clause-gains : goal.returns-in-Codes-clause-gains
returns-in-Codes-clause-gains g c =
    let s = c.args.source.now in
    let is : s.coding ≡ Codes = search rules in
    on_ok_weaker c.give_codes.result
    (λ gains.
    subst (λ (q : Coding). Gains g.E.Disk.state (change_numbers s.params.codec (codec_of c.args.to.now) (sound_behind q s.params.codec c.args.reader.now c.args.bytes.now)) c.args.to.now c.give_codes.new.to) (sym is)
    (subst (λ (q : Codec). Gains g.E.Disk.state (change_numbers q (codec_of c.args.to.now) (sound_behind Codes s.params.codec c.args.reader.now c.args.bytes.now)) c.args.to.now c.give_codes.new.to) (sym (c.requires.source.codes is).codec) gains))
    c.give_codes.ensures.gains

pub returns-in-Codes-clause-state : goal.returns-in-Codes-clause-state
returns-in-Codes-clause-state g c =
    let s = c.args.source.now in
    let is : s.coding ≡ Codes = search rules in
    c.give_codes.ensures.state ∙ sym (ap (λ (q : Coding). state_behind q c.args.reader.now c.args.bytes.now) is)
