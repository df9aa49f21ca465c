use Rattle.std.proofs.Common.{rules, ◌≡◌, ◌∙◌, ◌<◌, sym, [], None, Some, true, false, length, slice_get, get_or, arith}
use Rattle.std.proofs.lemmas.Option.{slice_get-get_or}
use Rattle.snd_words.proofs.Repeated.{found_here, found_later}
use Rattle.snd_deinterleave.specs.Deinterleave.{is_same_at}
use Rattle.snd_deinterleave.proofs.Repeating.{from_first, same_at}
use Rattle.snd_deinterleave.proofs.names.first_same.Goals as goal

pub loop-at-init : goal.loop-at-init
loop-at-init c = from_first c.args.input.now c.args.outputs.now

pub returns-in_err-name : goal.returns-in_err-name
returns-in_err-name c =
    let none : slice_get c.args.outputs.now c.loop-at.at ≡ None = search rules in
    let within : c.loop-at.at < length c.args.outputs.now = omega arith in
    let some : slice_get c.args.outputs.now c.loop-at.at ≡ Some (get_or c.args.outputs.now c.loop-at.at []) = slice_get-get_or c.args.outputs.now c.loop-at.at [] within in
    let never : ⊥ = cc in
    absurd never

pub returns-then-is_same : goal.returns-then-is_same
returns-then-is_same c =
    let input = c.args.input.now in
    let outputs = c.args.outputs.now in
    let at = c.loop-at.at in
    let there : slice_get outputs at ≡ Some c.in_ok-name.name.now = search rules in
    let within : at < length outputs = omega arith in
    let twice : is_same_at input outputs at ≡ true = same_at input outputs at c.in_ok-name.name.now there ∙ search rules in
    sym (found_here (is_same_at input outputs) at (length outputs) within twice) ∙ c.loop-at.invariant

pub loop-at-preserved : goal.loop-at-preserved
loop-at-preserved c =
    let input = c.args.input.now in
    let outputs = c.args.outputs.now in
    let at = c.loop-at.at in
    let there : slice_get outputs at ≡ Some c.in_ok-name.name.now = search rules in
    let within : at < length outputs = omega arith in
    let once : is_same_at input outputs at ≡ false = same_at input outputs at c.in_ok-name.name.now there ∙ search rules in
    sym (found_later (is_same_at input outputs) at (length outputs) within once) ∙ c.loop-at.invariant
