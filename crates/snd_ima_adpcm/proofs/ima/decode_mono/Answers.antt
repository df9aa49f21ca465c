use Rattle.std.proofs.Common.{◌≡◌, ◌+◌, ◌*◌, ◌%◌, [], ◌∷◌, drop, get_or, w32, to_z, of_z, arith, rules, refl, ap, ◌∙◌}
use Rattle.std.proofs.lemmas.Grind.{common_steps}
use Rattle.std.proofs.lemmas.List.Elements.{All-same}
use Rattle.snd_ima_adpcm.specs.Frames.{Is16Bit, low_half_first}
use Rattle.snd_ima_adpcm.specs.Ima.{ima_samples, ima_code_bytes, ima_index}
use Rattle.snd_ima_adpcm.proofs.ImaCodes.{ima_code_bytes-more_at, ima_code_bytes-end, ima_samples-byte, channel_range}
use Rattle.snd_ima_adpcm.proofs.Pushes.{one_begins, two_put, all_put}
use Rattle.snd_ima_adpcm.proofs.ima.decode_mono.Goals as goal

pub loop-n-init : goal.loop-n-init
loop-n-init c =
    let s = c.of_head-state.result in
    let first : to_z w32 (of_z w32 s.predictor) ≡ s.predictor = search rules in
    record { so_far = one_begins c.args.into.now _ _ _ (omega arith) first ∙ rw (c.of_head-state.ensures.predictor, c.of_head-state.ensures.index) refl; room = grind (arith, common_steps) }

pub loop-n-preserved : goal.loop-n-preserved
loop-n-preserved c =
    let n = c.loop-n.n in
    let s = c.loop-n.state in
    let middle = c.after_byte-middle.result.0 in
    let end = c.after_byte-middle.result.1 in
    let b = get_or c.args.bytes.now (4 + n) 0 in
    let after = drop (n + 1) (ima_code_bytes 1 0 c.args.bytes.now) in
    let more : drop n (ima_code_bytes 1 0 c.args.bytes.now) ≡ b ∷ after = ima_code_bytes-more_at 1 0 c.args.bytes.now n (4 + n) (omega arith) (omega arith) in
    let first : to_z w32 (of_z w32 middle) ≡ middle = search rules in
    let second : to_z w32 (of_z w32 end.predictor) ≡ end.predictor = search rules in
    let samples : ima_samples s.predictor s.index (low_half_first (drop n (ima_code_bytes 1 0 c.args.bytes.now))) ≡ to_z w32 (of_z w32 middle) ∷ to_z w32 (of_z w32 end.predictor) ∷ ima_samples end.predictor end.index (low_half_first after) =
    ap (λ bytes. ima_samples s.predictor s.index (low_half_first bytes)) more
    ∙ ima_samples-byte s.predictor middle end.predictor s.index (ima_index s.index (b % 16)) end.index b after (search rules) refl (search rules) (search rules)
    ∙ rw (first, second) refl in
    record {
      so_far = two_put c.loop-n.into _ _ _ (2 * n + 1) (2 * n + 2) (2 * (n + 1) + 1) _ _ (omega arith) (omega arith) (omega arith) samples c.loop-n.invariant.so_far;
      room = grind (arith, common_steps);
    }

pub returns-clause-samples : goal.returns-clause-samples
returns-clause-samples c =
    let s = c.loop-n.state in
    let past : drop c.loop-n.n (ima_code_bytes 1 0 c.args.bytes.now) ≡ [] = ima_code_bytes-end 1 0 c.args.bytes.now c.loop-n.n (omega arith) in
    all_put c.loop-n.into _ _ (2 * c.loop-n.n + 1) (omega arith) (ap (λ bytes. ima_samples s.predictor s.index (low_half_first bytes)) past) c.loop-n.invariant.so_far

pub returns-clause-range : goal.returns-clause-range
returns-clause-range c =
    let s = c.of_head-state.result in
    All-same Is16Bit c.loop-n.into _ (returns-clause-samples c) (channel_range 1 0 c.args.bytes.now s.predictor (record { least = s.low; most = s.high }) c.of_head-state.ensures.predictor)
