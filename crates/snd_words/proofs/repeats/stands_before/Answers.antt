use Rattle.std.proofs.Common.{rules, ◌≡◌, Some, true, false, slice_get, sym, ◌∙◌}
use Rattle.std.specs.Str.{bytes_eq}
use Rattle.snd_words.proofs.Repeated.{before_here, before_next}
use Rattle.snd_words.proofs.repeats.stands_before.Goals as goal

pub returns-then-eq : goal.returns-then-eq
returns-then-eq c =
    let there : slice_get c.args.names.now c.loop-at.at ≡ Some c.in-Some.earlier.now = search rules in
    let same : bytes_eq c.args.name.now c.in-Some.earlier.now ≡ true = search rules in
    sym (before_here c.args.name.now c.in-Some.earlier.now c.args.names.now c.loop-at.at c.args.end c.loop-at-test.true there same) ∙ c.loop-at.invariant

pub loop-at-preserved : goal.loop-at-preserved
loop-at-preserved c =
    let there : slice_get c.args.names.now c.loop-at.at ≡ Some c.in-Some.earlier.now = search rules in
    let other : bytes_eq c.args.name.now c.in-Some.earlier.now ≡ false = search rules in
    sym (before_next c.args.name.now c.in-Some.earlier.now c.args.names.now c.loop-at.at c.args.end c.loop-at-test.true there other) ∙ c.loop-at.invariant
