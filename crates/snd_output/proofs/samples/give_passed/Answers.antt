use Rattle.std.proofs.Common.{rules, ◌≡◌, ◌∙◌, ap, sym, subst, ℕ, ◌/◌, ℤ, List, All, length, take, false, arith}
use Rattle.std.proofs.lemmas.List.{length-take-le}
use Rattle.std.proofs.lemmas.Result.{on_ok_weaker}
use Rattle.std.specs.Prelude.{OnOk}
use Rattle.snd_fields.proofs.Numbers.{all_from_bytes}
use Rattle.snd_fields.specs.Laws.{IsByte}
use Rattle.snd_layout.specs.declared.codec.Codec.{Codec}
use Rattle.snd_edits.specs.Bytes.{numbers_in, sources_in}
use Rattle.snd_file.specs.Handle.{channels_of, codec_of, known_of}
use Rattle.snd_output.specs.Appended.{Gains, LeavesFile, bytes_in, coded_in, has_two_zeros}
use Rattle.snd_output.specs.Widths.{change_numbers}
use Rattle.snd_output.proofs.Passing.{changed_counted, changed_fit, coded_are_bytes, may_pass, same_numbers, sources_coded, sources_counted}
use Rattle.snd_output.proofs.SameBytes.{gains_as}
use Rattle.snd_output.proofs.samples.give_passed.Goals as goal

pub give_bytes-requires : goal.give_bytes-requires
give_bytes-requires g c =
    let n = length c.args.numbers.now in
    let same : c.args.codec ≡ codec_of c.args.to.now = search rules in
    let size : length c.args.bytes.now ≡ bytes_in (codec_of c.args.to.now) n = c.requires.held ∙ ap (λ (q : Codec). bytes_in q n) same in
    record { may = may_pass (known_of c.args.to.now) c.args.bytes.now n c.requires.pass.1 size c.requires.whole c.requires.at_end c.requires.room }

pub returns-then-stay-clause-left : goal.returns-then-stay-clause-left
returns-then-stay-clause-left g c =
    let n = length c.args.numbers.now in
    let to = c.args.to.now in
    let same : c.args.codec ≡ codec_of to = search rules in
    let size : length c.args.bytes.now ≡ bytes_in (codec_of to) n = c.requires.held ∙ ap (λ (q : Codec). bytes_in q n) same in
    subst (λ (m : ℕ). LeavesFile (m / channels_of to) to c.give_bytes.new.to c.give_bytes.result) (sources_counted (codec_of to) c.args.bytes.now n c.requires.pass.1 size) c.give_bytes.ensures.left

pub returns-then-stay-clause-gains : goal.returns-then-stay-clause-gains
returns-then-stay-clause-gains g c =
    let to = c.args.to.now in
    let same : (c.args.codec ≡ codec_of to) × (has_two_zeros c.args.codec ≡ false) = search rules in
    subst (λ (l : List ℤ). OnOk c.give_bytes.result (Gains g.E.Disk.state l to c.give_bytes.new.to)) (same_numbers c.args.codec (codec_of to) c.args.bytes.now same) c.give_bytes.ensures.gains

pub give_bytes-requires-2 : goal.give_bytes-requires-2
give_bytes-requires-2 g c =
    let n = length c.args.numbers.now in
    let to = c.args.to.now in
    let k = c.recode_into-count.result in
    let coded = c.recode_into-count.new.coded in
    let wanted : c.wanted.inside.codec ≡ codec_of to = search rules in
    let size : k ≡ bytes_in (codec_of to) n = c.recode_into-count.ensures.size ∙ ap (λ (q : Codec). bytes_in q n) wanted in
    let taken : length (take k coded) ≡ k = length-take-le k coded (omega (arith, size, c.requires.fits, c.recode_into-count.auto.coded)) in
    record { may = may_pass (known_of to) (take k coded) n c.requires.pass.1 (taken ∙ size) c.requires.whole c.requires.at_end c.requires.room }

pub returns-clause-left : goal.returns-clause-left
returns-clause-left g c =
    let n = length c.args.numbers.now in
    let to = c.args.to.now in
    let k = c.recode_into-count.result in
    let coded = c.recode_into-count.new.coded in
    let wanted : c.wanted.inside.codec ≡ codec_of to = search rules in
    let size : k ≡ bytes_in (codec_of to) n = c.recode_into-count.ensures.size ∙ ap (λ (q : Codec). bytes_in q n) wanted in
    let taken : length (take k coded) ≡ k = length-take-le k coded (omega (arith, size, c.requires.fits, c.recode_into-count.auto.coded)) in
    subst (λ (m : ℕ). LeavesFile (m / channels_of to) to c.give_bytes-2.new.to c.give_bytes-2.result) (sources_counted (codec_of to) (take k coded) n c.requires.pass.1 (taken ∙ size))
    c.give_bytes-2.ensures.left

pub returns-clause-gains : goal.returns-clause-gains
returns-clause-gains g c =
    let n = length c.args.numbers.now in
    let from = c.args.codec in
    let to = c.args.to.now in
    let k = c.recode_into-count.result in
    let b = take k c.recode_into-count.new.coded in
    let wanted : c.wanted.inside.codec ≡ codec_of to = search rules in
    let size : k ≡ bytes_in (codec_of to) n = c.recode_into-count.ensures.size ∙ ap (λ (q : Codec). bytes_in q n) wanted in
    let taken : length b ≡ k = length-take-le k c.recode_into-count.new.coded (omega (arith, size, c.requires.fits, c.recode_into-count.auto.coded)) in
    let given : List ℤ = numbers_in from c.args.bytes.now in
    let zs : List ℤ = change_numbers from (codec_of to) given in
    let is : b ≡ coded_in (codec_of to) zs = subst (λ (q : Codec). b ≡ coded_in q (change_numbers from q given)) wanted c.recode_into-count.ensures.coded in
    let bytes : All IsByte b = subst (All IsByte) (sym is) (coded_are_bytes (codec_of to) zs c.requires.pass.1) in
    on_ok_weaker c.give_bytes-2.result
    (λ gains. gains_as g.E.Disk.state to c.give_bytes-2.new.to (sources_in (codec_of to) b) zs c.requires.pass.1
    (sources_counted (codec_of to) b n c.requires.pass.1 (taken ∙ size) ∙ sym (changed_counted from (codec_of to) c.args.bytes.now n c.requires.pass.0 c.requires.held))
    (sources_coded (codec_of to) b n c.requires.pass.1 (taken ∙ size) bytes ∙ is)
    (changed_fit from (codec_of to) c.args.bytes.now c.requires.pass (all_from_bytes c.args.bytes.now (λ i. omega (arith, c.type_inv.bytes i)))) gains)
    c.give_bytes-2.ensures.gains
