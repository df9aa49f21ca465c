use Rattle.std.proofs.Common.{◌≡◌, ◌+◌, ◌*◌, ◌/◌, ◌%◌, [], ◌∷◌, drop, get_or, w32, to_z, of_z, arith, rules, refl, ap, ◌∙◌}
use Rattle.std.proofs.lemmas.List.{drop_more, drop_all}
use Rattle.std.proofs.lemmas.List.Elements.{All-same}
use Rattle.std.proofs.lemmas.Grind.{common_steps}
use Rattle.snd_ima_adpcm.specs.Frames.{Is16Bit, high_half_first}
use Rattle.snd_ms_adpcm.proofs.MsCodes.{rest_of, rest_of-code, samples_from_range}
use Rattle.snd_ima_adpcm.proofs.Public.{two_begin, two_put, all_put}
use Rattle.snd_ms_adpcm.proofs.microsoft.decode_mono.Goals as goal

pub loop-n-init : goal.loop-n-init
loop-n-init c =
    let older : to_z w32 (of_z w32 c.args.start.older) ≡ c.args.start.older = search rules in
    let newer : to_z w32 (of_z w32 c.args.start.newer) ≡ c.args.start.newer = search rules in
    record { so_far = two_begin c.args.into.now _ _ _ _ _ (omega arith) older newer; room = grind (arith, common_steps) }

pub loop-n-preserved : goal.loop-n-preserved
loop-n-preserved c =
    let n = c.loop-n.n in
    let b = get_or c.args.codes.now n 0 in
    let after = drop (n + 1) c.args.codes.now in
    let middle = c.after-middle.result in
    let end = c.after-end.result in
    let first : to_z w32 (of_z w32 middle.newer) ≡ middle.newer = search rules in
    let second : to_z w32 (of_z w32 end.newer) ≡ end.newer = search rules in
    let samples : rest_of c.loop-n.state (high_half_first (drop n c.args.codes.now)) ≡ to_z w32 (of_z w32 middle.newer) ∷ to_z w32 (of_z w32 end.newer) ∷ rest_of end (high_half_first after) =
    ap (λ bytes. rest_of c.loop-n.state (high_half_first bytes)) (drop_more c.args.codes.now n 0 (omega arith))
    ∙ rest_of-code c.loop-n.state middle (b / 16) (b % 16 ∷ high_half_first after) (search rules) (search rules) (search rules) (search rules) (search rules)
    ∙ ap (λ rest. middle.newer ∷ rest) (rest_of-code middle end (b % 16) (high_half_first after) (search rules) (search rules) (search rules) (search rules) (search rules))
    ∙ rw (first, second) refl in
    record {
      so_far = two_put c.loop-n.into _ _ _ (2 * n + 2) (2 * n + 3) (2 * (n + 1) + 2) _ _ (omega arith) (omega arith) (omega arith) samples c.loop-n.invariant.so_far;
      room = grind (arith, common_steps);
    }

pub returns-clause-samples : goal.returns-clause-samples
returns-clause-samples c =
    let past : drop c.loop-n.n c.args.codes.now ≡ [] = drop_all c.loop-n.n c.args.codes.now (omega arith) in
    all_put c.loop-n.into _ _ (2 * c.loop-n.n + 2) (omega arith) (ap (λ bytes. rest_of c.loop-n.state (high_half_first bytes)) past) c.loop-n.invariant.so_far

pub returns-clause-range : goal.returns-clause-range
returns-clause-range c = All-same Is16Bit c.loop-n.into _ (returns-clause-samples c) (samples_from_range c.args.start (high_half_first c.args.codes.now))
