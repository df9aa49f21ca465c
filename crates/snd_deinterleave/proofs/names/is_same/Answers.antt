use Rattle.std.proofs.Common.{rules, ◌≡◌, ◌∙◌, ap, sym, Bool, ◌||◌, Some, true, false, slice_get, take}
use Rattle.std.specs.List.{list_any}
use Rattle.std.specs.Str.{bytes_eq}
use Rattle.snd_words.proofs.Repeated.{before_here, before_next}
use Rattle.snd_deinterleave.proofs.names.is_same.Goals as goal

pub returns-then-eq-2 : goal.returns-then-eq-2
returns-then-eq-2 c =
    let name = c.args.name.now in
    let front = list_any (bytes_eq name) (take c.args.end c.args.outputs.now) in
    let there : slice_get c.args.outputs.now c.loop-at.at ≡ Some c.in-Some.earlier.now = search rules in
    let same : bytes_eq name c.in-Some.earlier.now ≡ true = search rules in
    let any : front ≡ true = sym c.loop-at.invariant ∙ before_here name c.in-Some.earlier.now c.args.outputs.now c.loop-at.at c.args.end c.loop-at-test.true there same in
    let other : bytes_eq name c.args.input.now ≡ false = search rules in
    sym (ap (λ (t : Bool). t || front) other ∙ any)

pub loop-at-preserved : goal.loop-at-preserved
loop-at-preserved c =
    let there : slice_get c.args.outputs.now c.loop-at.at ≡ Some c.in-Some.earlier.now = search rules in
    let other : bytes_eq c.args.name.now c.in-Some.earlier.now ≡ false = search rules in
    sym (before_next c.args.name.now c.in-Some.earlier.now c.args.outputs.now c.loop-at.at c.args.end c.loop-at-test.true there other) ∙ c.loop-at.invariant
