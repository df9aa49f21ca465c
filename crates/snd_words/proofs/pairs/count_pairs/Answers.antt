use Rattle.std.proofs.Common.{rules, ◌≡◌, ◌+◌, ◌*◌, ◌<◌, ◌≤◌, [], true, false, drop, length, slice_index_or, ap, ◌∙◌, arith}
use Rattle.snd_words.specs.Metadata.{option_pairs}
use Rattle.snd_words.specs.Options.{is_option}
use Rattle.snd_words.proofs.Coupled.{pairs_end, pairs_more, pairs_short}
use Rattle.snd_words.proofs.pairs.count_pairs.Goals as goal

pub loop-count-preserved : goal.loop-count-preserved
loop-count-preserved c =
    let option : is_option (slice_index_or c.args.words.now (2 * c.loop-count.count + 1) []) ≡ true = search rules in
    let there : 2 * c.loop-count.count + 1 + 1 < length c.args.words.now = omega arith in
    let next : 2 * c.loop-count.count + 1 + 2 ≡ 2 * (c.loop-count.count + 1) + 1 = omega arith in
    let more : length (option_pairs (drop (2 * c.loop-count.count + 1) c.args.words.now)) ≡ 1 + length (option_pairs (drop (2 * (c.loop-count.count + 1) + 1) c.args.words.now))
    = pairs_more c.args.words.now (2 * c.loop-count.count + 1) there option ∙ ap (λ n. 1 + length (option_pairs (drop n c.args.words.now))) next in
    record {
      within = omega arith;
      same = omega (arith, more, c.loop-count.invariant.same);
    }

pub returns-else-is_option_at-clause-count : goal.returns-else-is_option_at-clause-count
returns-else-is_option_at-clause-count c =
    let other : is_option (slice_index_or c.args.words.now (2 * c.loop-count.count + 1) []) ≡ false = search rules in
    omega (arith, pairs_end c.args.words.now (2 * c.loop-count.count + 1) other, c.loop-count.invariant.same)

pub returns-after-loop-count-clause-count : goal.returns-after-loop-count-clause-count
returns-after-loop-count-clause-count c =
    let few : length c.args.words.now ≤ 2 * c.loop-count.count + 1 + 1 = omega arith in
    omega (arith, pairs_short c.args.words.now (2 * c.loop-count.count + 1) few, c.loop-count.invariant.same)
