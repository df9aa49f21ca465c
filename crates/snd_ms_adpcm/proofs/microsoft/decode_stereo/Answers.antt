use Rattle.std.proofs.Common.{◌≡◌, ◌+◌, ◌*◌, ◌/◌, ◌%◌, [], ◌∷◌, drop, get_or, w32, to_z, of_z, arith, rules, refl, ap, ◌∙◌}
use Rattle.std.proofs.lemmas.List.{drop_more, drop_all}
use Rattle.std.proofs.lemmas.List.Elements.{All-same}
use Rattle.std.proofs.lemmas.Grind.{common_steps}
use Rattle.snd_ima_adpcm.specs.Frames.{Is16Bit, alternating, high_half_first, firsts, seconds}
use Rattle.snd_ms_adpcm.specs.States.{ms_samples_from}
use Rattle.snd_ms_adpcm.proofs.MsCodes.{rest_of, rest_of-code, samples_from_range}
use Rattle.snd_ima_adpcm.proofs.Public.{two_begin, two_put, all_put, alternating_all}
use Rattle.snd_ms_adpcm.proofs.microsoft.decode_stereo.Goals as goal

pub loop-n-init : goal.loop-n-init
loop-n-init c =
    let l = c.args.first in
    let r = c.args.second in
    let rest = alternating (rest_of l (firsts (high_half_first c.args.codes.now))) (rest_of r (seconds (high_half_first c.args.codes.now))) in
    let one : to_z w32 (of_z w32 l.older) ≡ l.older = search rules in
    let two : to_z w32 (of_z w32 r.older) ≡ r.older = search rules in
    let three : to_z w32 (of_z w32 l.newer) ≡ l.newer = search rules in
    let four : to_z w32 (of_z w32 r.newer) ≡ r.newer = search rules in
    record {
      so_far = two_put _ (l.older ∷ r.older ∷ l.newer ∷ r.newer ∷ rest) (l.newer ∷ r.newer ∷ rest) rest 2 3 4 _ _ refl refl (grind (arith, common_steps)) (rw (three, four) refl) (two_begin c.args.into.now _ _ _ _ _ (omega arith) one two);
      room = grind (arith, common_steps);
    }

pub loop-n-preserved : goal.loop-n-preserved
loop-n-preserved c =
    let n = c.loop-n.n in
    let b = get_or c.args.codes.now n 0 in
    let after = drop (n + 1) c.args.codes.now in
    let l = c.after-left.result in
    let r = c.after-right.result in
    let first : to_z w32 (of_z w32 l.newer) ≡ l.newer = search rules in
    let second : to_z w32 (of_z w32 r.newer) ≡ r.newer = search rules in
    let left : rest_of c.loop-n.left (firsts (high_half_first (drop n c.args.codes.now))) ≡ l.newer ∷ rest_of l (firsts (high_half_first after)) =
    ap (λ bytes. rest_of c.loop-n.left (firsts (high_half_first bytes))) (drop_more c.args.codes.now n 0 (omega arith))
    ∙ rest_of-code c.loop-n.left l (b / 16) (firsts (high_half_first after)) (search rules) (search rules) (search rules) (search rules) (search rules) in
    let right : rest_of c.loop-n.right (seconds (high_half_first (drop n c.args.codes.now))) ≡ r.newer ∷ rest_of r (seconds (high_half_first after)) =
    ap (λ bytes. rest_of c.loop-n.right (seconds (high_half_first bytes))) (drop_more c.args.codes.now n 0 (omega arith))
    ∙ rest_of-code c.loop-n.right r (b % 16) (seconds (high_half_first after)) (search rules) (search rules) (search rules) (search rules) (search rules) in
    record {
      so_far = two_put c.loop-n.into _ _ _ (2 * n + 4) (2 * n + 5) (2 * (n + 1) + 4) _ _ (omega arith) (omega arith) (omega arith) (rw (left, right, first, second) refl) c.loop-n.invariant.so_far;
      room = grind (arith, common_steps);
    }

pub returns-clause-samples : goal.returns-clause-samples
returns-clause-samples c =
    let past : drop c.loop-n.n c.args.codes.now ≡ [] = drop_all c.loop-n.n c.args.codes.now (omega arith) in
    all_put c.loop-n.into _ _ (2 * c.loop-n.n + 4) (omega arith)
    (ap (λ bytes. alternating (rest_of c.loop-n.left (firsts (high_half_first bytes))) (rest_of c.loop-n.right (seconds (high_half_first bytes)))) past) c.loop-n.invariant.so_far

pub returns-clause-range : goal.returns-clause-range
returns-clause-range c =
    let codes = high_half_first c.args.codes.now in
    All-same Is16Bit c.loop-n.into _ (returns-clause-samples c)
    (alternating_all Is16Bit (ms_samples_from c.args.first (firsts codes)) (ms_samples_from c.args.second (seconds codes)) (samples_from_range c.args.first (firsts codes)) (samples_from_range c.args.second (seconds codes)))
