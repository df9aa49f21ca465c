use Rattle.std.proofs.Common.{rules, ◌≡◌, ◌∙◌, ap, sym, inl, inr, ℕ, List, length, take, min, arith}
use Rattle.std.proofs.lemmas.Bool.{cases_lt}
use Rattle.std.proofs.lemmas.List.{take_all}
use Rattle.snd_tags.proofs.info.front.Goals as goal

-- a front as long as the list or longer is the list
take_short : {X : Type 0} (n m : ℕ) (xs : List X) → m ≡ min (length xs) n → take m xs ≡ take n xs
take_short n m xs is = elim (cases_lt n (length xs)) [
  | inl less ↦ let same : m ≡ n = omega (arith, is, less) in ap (λ (k : ℕ). take k xs) same
  | inr more ↦ take_all m xs (omega (arith, is, more)) ∙ sym (take_all n xs more)
]

pub returns-clause-front : goal.returns-clause-front
returns-clause-front c = take_short 256 c.min.result c.args.pieces.now (search rules)
