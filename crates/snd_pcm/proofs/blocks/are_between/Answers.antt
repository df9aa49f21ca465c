use Rattle.std.proofs.Common.{◌≡◌, ◌∙◌, pos, ◌≤ℤ◌, get_or, rules, to_z, of_z, w32, arith}
use Rattle.snd_pcm.proofs.Ranges.{all_of_ends, one_more}
use Rattle.snd_pcm.proofs.blocks.are_between.Goals as goal

pub loop-x-init : goal.loop-x-init
loop-x-init c = (λ ends k d lt. absurd (omega (arith, lt)), λ all. let ends : (c.args.low ≤ℤ pos 0) × (pos 0 ≤ℤ c.args.high) = (c.requires.below, c.requires.above) in search rules)

pub loop-x-preserved : goal.loop-x-preserved
loop-x-preserved c =
    let x = get_or c.args.from.now c.loop-x.x-index (pos 0) in
    let x_is : to_z w32 (of_z w32 x) ≡ x = search rules in
    let less : to_z w32 (of_z w32 c.min-least.result) ≡ c.min-least.result = search rules in
    let more : to_z w32 (of_z w32 c.max-greatest.result) ≡ c.max-greatest.result = search rules in
    one_more _ _ _ _ _ _ c.args.from.now c.loop-x.x-index c.loop-x-test.true
    (less ∙ rw x_is at c.min-least.ensures.value) (more ∙ rw x_is at c.max-greatest.ensures.value) c.loop-x.invariant

pub returns-then-low-least : goal.returns-then-low-least
returns-then-low-least c =
    let low_is : to_z w32 (of_z w32 c.args.low) ≡ c.args.low = search rules in
    let high_is : to_z w32 (of_z w32 c.args.high) ≡ c.args.high = search rules in
    let whole = all_of_ends _ _ _ _ _ _ c.args.from.now c.loop-x.x-index c.loop-x-test.false low_is high_is c.loop-x.invariant in
    (λ e. whole.0 (search rules, search rules), λ all. let ends = whole.1 all in search rules)

pub returns-else-low-least : goal.returns-else-low-least
returns-else-low-least c =
    let low_is : to_z w32 (of_z w32 c.args.low) ≡ c.args.low = search rules in
    let high_is : to_z w32 (of_z w32 c.args.high) ≡ c.args.high = search rules in
    let whole = all_of_ends _ _ _ _ _ _ c.args.from.now c.loop-x.x-index c.loop-x-test.false low_is high_is c.loop-x.invariant in
    (λ e. whole.0 (search rules, search rules), λ all. let ends = whole.1 all in search rules)
