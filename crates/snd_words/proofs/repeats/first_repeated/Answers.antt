use Rattle.std.proofs.Common.{rules, ◌≡◌, ◌+◌, ◌<◌, ℕ, List, [], ◌∷◌, ◌++◌, Some, None, true, false, length, slice_get, get_or, sym, ◌∙◌, arith}
use Rattle.std.proofs.lemmas.Option.{slice_get-get_or}
use Rattle.snd_words.specs.Repeats.{is_repeated_at}
use Rattle.snd_words.proofs.Repeated.{found_here, found_later, from_first, input_repeats}
use Rattle.snd_words.proofs.repeats.first_repeated.Goals as goal

pub loop-at-init : goal.loop-at-init
loop-at-init c = from_first c.args.inputs.now c.args.output.now

pub returns-in_err-name : goal.returns-in_err-name
returns-in_err-name c =
    let none : slice_get c.args.inputs.now c.loop-at.at ≡ None = search rules in
    let within : c.loop-at.at < length c.args.inputs.now = omega arith in
    let some : slice_get c.args.inputs.now c.loop-at.at ≡ Some (get_or c.args.inputs.now c.loop-at.at []) = slice_get-get_or c.args.inputs.now c.loop-at.at [] within in
    let never : ⊥ = cc in
    absurd never

pub returns-then-stands_before : goal.returns-then-stands_before
returns-then-stands_before c =
    let all : List (List ℕ) = c.args.inputs.now ++ c.args.output.now ∷ [] in
    let there : slice_get c.args.inputs.now c.loop-at.at ≡ Some c.in_ok-name.name.now = search rules in
    let within : c.loop-at.at < length c.args.inputs.now + 1 = omega arith in
    let twice : is_repeated_at all c.loop-at.at ≡ true = input_repeats c.args.inputs.now c.args.output.now c.in_ok-name.name.now c.loop-at.at there ∙ search rules in
    sym (found_here (is_repeated_at all) c.loop-at.at (length c.args.inputs.now + 1) within twice) ∙ c.loop-at.invariant

pub loop-at-preserved : goal.loop-at-preserved
loop-at-preserved c =
    let all : List (List ℕ) = c.args.inputs.now ++ c.args.output.now ∷ [] in
    let there : slice_get c.args.inputs.now c.loop-at.at ≡ Some c.in_ok-name.name.now = search rules in
    let within : c.loop-at.at < length c.args.inputs.now + 1 = omega arith in
    let once : is_repeated_at all c.loop-at.at ≡ false = input_repeats c.args.inputs.now c.args.output.now c.in_ok-name.name.now c.loop-at.at there ∙ search rules in
    sym (found_later (is_repeated_at all) c.loop-at.at (length c.args.inputs.now + 1) within once) ∙ c.loop-at.invariant
