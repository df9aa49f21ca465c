use Rattle.std.proofs.Common.{rules, ◌≡◌, ◌+◌, Some, None, slice_get, length, drop, sym, ap, ◌∙◌, arith}
use Rattle.std.proofs.lemmas.List.{length-drop}
use Rattle.snd_words.specs.Names.{name_or_none}
use Rattle.snd_words.proofs.Runs.{both, not_two_names, two_names_at}
use Rattle.snd_words.proofs.names.two_names.Goals as goal

pub returns-then-len-at-ne2 : goal.returns-then-len-at-ne2
returns-then-len-at-ne2 c = sym (not_two_names (drop c.args.at c.args.words.now) (λ two. omega (arith, two, length-drop c.args.at c.args.words.now)))

pub returns-in_err-one : goal.returns-in_err-one
returns-in_err-one c =
    let count : length c.args.words.now ≡ c.args.at + 2 = omega arith in
    let none : name_or_none (slice_get c.args.words.now c.args.at) ≡ None = search rules in
    let was : c.from_residual.result ≡ None = search rules in
    rw was (sym (two_names_at c.args.words.now c.args.at count ∙ ap (λ o. both o (name_or_none (slice_get c.args.words.now (c.args.at + 1)))) none))

pub returns-in_err-two : goal.returns-in_err-two
returns-in_err-two c =
    let count : length c.args.words.now ≡ c.args.at + 2 = omega arith in
    let one : name_or_none (slice_get c.args.words.now c.args.at) ≡ Some c.in_ok-one.one.now = search rules in
    let none : name_or_none (slice_get c.args.words.now (c.args.at + 1)) ≡ None = search rules in
    let was : c.from_residual-in_err-two.result ≡ None = search rules in
    rw was (sym (two_names_at c.args.words.now c.args.at count ∙ ap (λ o. both o (name_or_none (slice_get c.args.words.now (c.args.at + 1)))) one ∙ ap (both (Some c.in_ok-one.one.now)) none))

pub returns : goal.returns
returns c =
    let count : length c.args.words.now ≡ c.args.at + 2 = omega arith in
    let one : name_or_none (slice_get c.args.words.now c.args.at) ≡ Some c.in_ok-one.one.now = search rules in
    let two : name_or_none (slice_get c.args.words.now (c.args.at + 1)) ≡ Some c.in_ok-two.two.now = search rules in
    sym (two_names_at c.args.words.now c.args.at count ∙ ap (λ o. both o (name_or_none (slice_get c.args.words.now (c.args.at + 1)))) one ∙ ap (both (Some c.in_ok-one.one.now)) two)
