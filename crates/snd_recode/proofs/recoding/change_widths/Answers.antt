use Rattle.std.proofs.Common.{rules, ◌≡◌, sym, subst, ℕ}
use Rattle.snd_recode.proofs.Numbers.{all_same_width}
use Rattle.snd_recode.specs.Recoded.{changed_all}
use Rattle.snd_recode.proofs.recoding.change_widths.Goals as goal

pub returns-else-from-to-clause-changed : goal.returns-else-from-to-clause-changed
returns-else-from-to-clause-changed c =
    let xs = c.args.numbers.now in
    let same : c.args.from ≡ c.args.to = search rules in
    sym (subst (λ (w : ℕ). changed_all c.args.from w xs ≡ xs) same (all_same_width c.args.from xs))
