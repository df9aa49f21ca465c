use Rattle.std.proofs.Common.{rules, ◌≡◌, Some, true, false, drop, slice_get, sym, ◌∙◌}
use Rattle.std.specs.Str.{bytes_eq}
use Rattle.snd_words.specs.Metadata.{option_pairs, options_in}
use Rattle.snd_words.proofs.Coupled.{any_here, any_next}
use Rattle.snd_words.proofs.pairs.has_option_from.Goals as goal

pub returns-then-eq : goal.returns-then-eq
returns-then-eq c =
    let there : slice_get (options_in (option_pairs (drop 1 c.args.words.now))) c.loop-later.later ≡ Some c.in-Some.other.now = search rules in
    let same : bytes_eq c.args.option.now c.in-Some.other.now ≡ true = search rules in
    sym (any_here c.args.option.now c.in-Some.other.now _ c.loop-later.later there same) ∙ c.loop-later.invariant

pub loop-later-preserved : goal.loop-later-preserved
loop-later-preserved c =
    let there : slice_get (options_in (option_pairs (drop 1 c.args.words.now))) c.loop-later.later ≡ Some c.in-Some.other.now = search rules in
    let other : bytes_eq c.args.option.now c.in-Some.other.now ≡ false = search rules in
    sym (any_next c.args.option.now c.in-Some.other.now _ c.loop-later.later there other) ∙ c.loop-later.invariant
