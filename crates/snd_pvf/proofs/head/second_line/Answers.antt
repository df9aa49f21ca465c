use Rattle.std.proofs.Common.{◌≡◌, ◌∙◌, ap, arith, ℕ, ◌-◌, List, Option, None, Some, drop, length, take, option_map}
use Rattle.std.proofs.lemmas.List.{length-drop, take_all, take_min}
use Rattle.std.specs.Prelude.{min}
use Rattle.snd_pvf.specs.Pvf.{cut_at, second_line}
use Rattle.snd_pvf.proofs.head.second_line.Goals as goal

abbrev first_part : Option (List ℕ × List ℕ) → Option (List ℕ)
first_part parts = option_map (λ parts. parts.0) parts

-- the first 64 bytes are cut behind the first five
line_is : (b : List ℕ) (k : ℕ) (parts : Option (List ℕ × List ℕ)) → k ≡ min 64 (length b) → parts ≡ cut_at 10 (take (length (take k b) - 5) (drop 5 (take k b))) → first_part parts ≡ first_part (second_line b)
unfolding second_line
line_is b k parts few is =
    let f : List ℕ = take k b in
    let rest : take (length f - 5) (drop 5 f) ≡ drop 5 f = take_all (length f - 5) (drop 5 f) (omega (arith, length-drop 5 f)) in
    ap first_part (is ∙ ap (cut_at 10) rest ∙ ap (λ (n : ℕ). cut_at 10 (drop 5 (take n b))) few ∙ ap (λ (l : List ℕ). cut_at 10 (drop 5 l)) (take_min 64 b))

pub returns-in-Some-clause-line : goal.returns-in-Some-clause-line
returns-in-Some-clause-line c = line_is c.args.bytes.now c.min.result (Some (c.in-Some.line.now, c.in-Some.field-0-1.now)) c.min.ensures c.in-Some.ensures.parts

pub returns-in-None-clause-line : goal.returns-in-None-clause-line
returns-in-None-clause-line c = line_is c.args.bytes.now c.min.result None c.min.ensures c.in-None.ensures.parts
