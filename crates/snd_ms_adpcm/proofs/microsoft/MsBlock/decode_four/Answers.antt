use Rattle.std.proofs.Common.{rules, ◌≡◌, ◌∙◌, sym, subst, ℕ, ◌*◌, ◌/◌, true, false, List, length, arith}
use Rattle.std.proofs.lemmas.List.Elements.{All-append}
use Rattle.snd_ima_adpcm.specs.Frames.{Is16Bit}
use Rattle.snd_ms_adpcm.specs.Four.{AreSamples, any_bad, part}
use Rattle.snd_ms_adpcm.specs.Microsoft.{ms_numbers}
use Rattle.snd_ms_adpcm.proofs.Four.{bad_parts, each_part, part_0, part_1, part_2, part_3}
use Rattle.snd_ms_adpcm.proofs.microsoft.MsBlock.decode_four.Goals as goal

pub returns-then-any_bad-clause-bad : goal.returns-then-any_bad-clause-bad
returns-then-any_bad-clause-bad c =
    let n = length c.args.bytes.now / 4 in
    let p = c.split_at.ensures in
    let q = c.split_at-2.ensures in
    let r = c.split_at-3.ensures in
    let is : any_bad n c.args.bytes.now ≡ true = bad_parts n c.args.bytes.now _ _ _ _ _ _ (omega (arith, c.requires.whole)) p.front p.back q.front q.back r.front r.back ∙ sym c.any_bad.ensures ∙ c.if-any_bad.true in
    (λ err. is, λ bad. search rules)

pub returns-clause-bad : goal.returns-clause-bad
returns-clause-bad c =
    let n = length c.args.bytes.now / 4 in
    let p = c.split_at.ensures in
    let q = c.split_at-2.ensures in
    let r = c.split_at-3.ensures in
    let is : any_bad n c.args.bytes.now ≡ false = bad_parts n c.args.bytes.now _ _ _ _ _ _ (omega (arith, c.requires.whole)) p.front p.back q.front q.back r.front r.back ∙ sym c.any_bad.ensures ∙ c.if-any_bad.false in
    (λ err. absurd (cc), λ bad. absurd (cc))

pub returns-clause-samples : goal.returns-clause-samples
returns-clause-samples c =
    let n = length c.args.bytes.now / 4 in
    let p = c.split_at.ensures in
    let q = c.split_at-2.ensures in
    let r = c.split_at-3.ensures in
    let d = c.decode_good in
    let all : length c.args.bytes.now ≡ 4 * n = omega (arith, c.requires.whole) in
    each_part (ms_numbers 2 n) d.new.one d.new.two d.new.three d.new.four (search rules) (search rules) (search rules) (search rules) (λ k xs. AreSamples (part n k c.args.bytes.now) xs)
    (subst (λ (l : List ℕ). AreSamples l d.new.one) (sym (part_0 n c.args.bytes.now _ _ _ _ _ _ all p.front p.back q.front q.back r.front r.back)) d.ensures.one)
    (subst (λ (l : List ℕ). AreSamples l d.new.two) (sym (part_1 n c.args.bytes.now _ _ _ _ _ _ all p.front p.back q.front q.back r.front r.back)) d.ensures.two)
    (subst (λ (l : List ℕ). AreSamples l d.new.three) (sym (part_2 n c.args.bytes.now _ _ _ _ _ _ all p.front p.back q.front q.back r.front r.back)) d.ensures.three)
    (subst (λ (l : List ℕ). AreSamples l d.new.four) (sym (part_3 n c.args.bytes.now _ _ _ _ _ _ all p.front p.back q.front q.back r.front r.back)) d.ensures.four)

pub returns-clause-range : goal.returns-clause-range
returns-clause-range c =
    let d = c.decode_good in
    All-append Is16Bit d.new.one _ d.ensures.one.range (All-append Is16Bit d.new.two _ d.ensures.two.range (All-append Is16Bit d.new.three d.new.four d.ensures.three.range d.ensures.four.range))
