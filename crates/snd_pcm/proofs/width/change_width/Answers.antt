use Rattle.std.proofs.Common.{◌≡◌, ◌∙◌, ◌-◌, ◌^◌, ap, sym, subst, arith, rules, to_z, of_z, w32}
use Rattle.snd_pcm.specs.Width.{HasWidth, floor_div}
use Rattle.snd_pcm.proofs.Narrowed.{narrowed}
use Rattle.snd_pcm.proofs.width.change_width.Goals as goal

pub returns-else-from-to-clause-in_range : goal.returns-else-from-to-clause-in_range
returns-else-from-to-clause-in_range c =
    let inside = narrowed c.args.from c.args.to c.args.value (omega (arith, c.requires.to_width)) (omega arith) c.requires.in_range in
    let value_is : to_z w32 (of_z w32 c.args.value) ≡ c.args.value = search rules in
    let result_is : to_z w32 (of_z w32 c.narrowed.result) ≡ c.narrowed.result = search rules in
    let quotient = ap (λ z. floor_div z (2 ^ (c.args.from - c.args.to))) value_is in
    subst (HasWidth c.args.to) (sym (result_is ∙ c.narrowed.ensures ∙ quotient)) inside
