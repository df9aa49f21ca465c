use Rattle.std.proofs.Common.{rules, ◌≡◌, Some, true, false, slice_get, refl, sym}
use Rattle.snd_words.specs.Names.{is_name}
use Rattle.snd_words.proofs.Runs.{all_next}
use Rattle.snd_words.proofs.names.Names.between.Goals as goal

pub returns-then-not-is_name : goal.returns-then-not-is_name
returns-then-not-is_name c =
    let there : slice_get c.args.words.now c.loop-at.at ≡ Some c.in_ok-word.word.now = search rules in
    let other : is_name c.in_ok-word.word.now ≡ false = search rules in
    let all = rw (all_next is_name c.args.words.now c.loop-at.at c.args.end c.in_ok-word.word.now c.loop-at-test.true there, other) at c.loop-at.invariant in
    rw (sym all) refl

pub loop-at-preserved : goal.loop-at-preserved
loop-at-preserved c =
    let there : slice_get c.args.words.now c.loop-at.at ≡ Some c.in_ok-word.word.now = search rules in
    let name : is_name c.in_ok-word.word.now ≡ true = search rules in
    rw (all_next is_name c.args.words.now c.loop-at.at c.args.end c.in_ok-word.word.now c.loop-at-test.true there, name) at c.loop-at.invariant
