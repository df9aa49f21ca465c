use Rattle.std.proofs.Common.{rules, ◌≡◌, ◌+◌, Some, true, false, drop, slice_get, sym, ◌∙◌}
use Rattle.std.specs.List.{list_any}
use Rattle.std.specs.Str.{bytes_eq}
use Rattle.snd_words.specs.Metadata.{option_pairs, options_in}
use Rattle.snd_words.proofs.Coupled.{distinct_next, distinct_not}
use Rattle.snd_words.proofs.pairs.are_distinct.Goals as goal

pub returns-then-has_option_from : goal.returns-then-has_option_from
returns-then-has_option_from c =
    let there : slice_get (options_in (option_pairs (drop 1 c.args.words.now))) c.loop-at.at ≡ Some c.in-Some.option.now = search rules in
    let again : list_any (bytes_eq c.in-Some.option.now) (drop (c.loop-at.at + 1) (options_in (option_pairs (drop 1 c.args.words.now)))) ≡ true = search rules in
    sym (distinct_not c.in-Some.option.now _ c.loop-at.at there again) ∙ c.loop-at.invariant

pub loop-at-preserved : goal.loop-at-preserved
loop-at-preserved c =
    let there : slice_get (options_in (option_pairs (drop 1 c.args.words.now))) c.loop-at.at ≡ Some c.in-Some.option.now = search rules in
    let once : list_any (bytes_eq c.in-Some.option.now) (drop (c.loop-at.at + 1) (options_in (option_pairs (drop 1 c.args.words.now)))) ≡ false = search rules in
    sym (distinct_next c.in-Some.option.now _ c.loop-at.at there once) ∙ c.loop-at.invariant
