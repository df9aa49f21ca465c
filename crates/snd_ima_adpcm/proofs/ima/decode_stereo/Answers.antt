use Rattle.std.proofs.Common.{◌≡◌, ℕ, ◌+◌, ◌*◌, ◌/◌, ◌%◌, List, ◌∷◌, ◌++◌, take, drop, set, get_or, w32, to_z, of_z, arith, rules, refl, ap, ◌∙◌}
use Rattle.std.proofs.lemmas.Grind.{common_steps}
use Rattle.std.proofs.lemmas.List.Elements.{All-same}
use Rattle.snd_ima_adpcm.specs.Frames.{Is16Bit, low_half_first, alternating}
use Rattle.snd_ima_adpcm.specs.Ima.{ima_block, ima_channel, ima_code_bytes, ima_samples, ima_index}
use Rattle.snd_ima_adpcm.proofs.ImaCodes.{ima_code_bytes-more_at, ima_code_bytes-end, ima_samples-byte, channel_range}
use Rattle.snd_ima_adpcm.proofs.Pushes.{two_begin, two_put, all_put, alternating_all}
use Rattle.snd_ima_adpcm.proofs.ima.decode_stereo.Goals as goal

pub loop-n-init : goal.loop-n-init
loop-n-init c =
    let l = c.of_head-left.result in
    let r = c.of_head-right.result in
    let first : to_z w32 (of_z w32 l.predictor) ≡ l.predictor = search rules in
    let second : to_z w32 (of_z w32 r.predictor) ≡ r.predictor = search rules in
    record {
      so_far = two_begin c.args.into.now _ _ _ _ _ (omega arith) first second
          ∙ rw (c.of_head-left.ensures.predictor, c.of_head-left.ensures.index, c.of_head-right.ensures.predictor, c.of_head-right.ensures.index) refl;
      room = grind (arith, common_steps);
    }

pub loop-n-preserved : goal.loop-n-preserved
loop-n-preserved c =
    let n = c.loop-n.n in
    let place = 8 + 8 * (n / 4) + n % 4 in
    let lm = c.after_byte-left_middle.result.0 in
    let le = c.after_byte-left_middle.result.1 in
    let rm = c.after_byte-right_middle.result.0 in
    let re = c.after_byte-right_middle.result.1 in
    let lefts = ima_samples le.predictor le.index (low_half_first (drop (n + 1) (ima_code_bytes 2 0 c.args.bytes.now))) in
    let rights = ima_samples re.predictor re.index (low_half_first (drop (n + 1) (ima_code_bytes 2 1 c.args.bytes.now))) in
    let one : to_z w32 (of_z w32 lm) ≡ lm = search rules in
    let two : to_z w32 (of_z w32 rm) ≡ rm = search rules in
    let three : to_z w32 (of_z w32 le.predictor) ≡ le.predictor = search rules in
    let four : to_z w32 (of_z w32 re.predictor) ≡ re.predictor = search rules in
    let left : ima_samples c.loop-n.left.predictor c.loop-n.left.index (low_half_first (drop n (ima_code_bytes 2 0 c.args.bytes.now))) ≡ lm ∷ le.predictor ∷ lefts =
    ap (λ bytes. ima_samples c.loop-n.left.predictor c.loop-n.left.index (low_half_first bytes)) (ima_code_bytes-more_at 2 0 c.args.bytes.now n place (omega arith) (omega arith))
    ∙ ima_samples-byte _ lm _ _ (ima_index c.loop-n.left.index (get_or c.args.bytes.now place 0 % 16)) _ _ _ (search rules) refl (search rules) (search rules) in
    let right : ima_samples c.loop-n.right.predictor c.loop-n.right.index (low_half_first (drop n (ima_code_bytes 2 1 c.args.bytes.now))) ≡ rm ∷ re.predictor ∷ rights =
    ap (λ bytes. ima_samples c.loop-n.right.predictor c.loop-n.right.index (low_half_first bytes)) (ima_code_bytes-more_at 2 1 c.args.bytes.now n (place + 4) (omega arith) (omega arith))
    ∙ ima_samples-byte _ rm _ _ (ima_index c.loop-n.right.index (get_or c.args.bytes.now (place + 4) 0 % 16)) _ _ _ (search rules) refl (search rules) (search rules) in
    let middles : take (4 * n + 4) (set (set c.loop-n.into (4 * n + 2) (to_z w32 (of_z w32 lm))) (4 * n + 3) (to_z w32 (of_z w32 rm))) ++ (le.predictor ∷ re.predictor ∷ alternating lefts rights) ≡ ima_block 2 c.args.bytes.now =
    two_put c.loop-n.into _ _ (le.predictor ∷ re.predictor ∷ alternating lefts rights) (4 * n + 2) (4 * n + 3) (4 * n + 4) _ _ (omega arith) (omega arith) (omega arith)
    (rw (left, right, one, two) refl) c.loop-n.invariant.so_far in
    record {
      so_far = two_put _ _ _ (alternating lefts rights) (4 * n + 4) (4 * n + 5) (4 * (n + 1) + 2) _ _ (omega arith) (omega arith) (grind (arith, common_steps)) (rw (three, four) refl) middles;
      room = grind (arith, common_steps);
    }

pub returns-clause-samples : goal.returns-clause-samples
returns-clause-samples c =
    let l = c.loop-n.left in
    let r = c.loop-n.right in
    let samples = λ (bytes : List ℕ). alternating (ima_samples l.predictor l.index (low_half_first bytes)) (ima_samples r.predictor r.index (low_half_first (drop c.loop-n.n (ima_code_bytes 2 1 c.args.bytes.now)))) in
    all_put c.loop-n.into _ _ (4 * c.loop-n.n + 2) (omega arith) (ap samples (ima_code_bytes-end 2 0 c.args.bytes.now c.loop-n.n (omega arith))) c.loop-n.invariant.so_far

pub returns-clause-range : goal.returns-clause-range
returns-clause-range c =
    let l = c.of_head-left.result in
    let r = c.of_head-right.result in
    All-same Is16Bit c.loop-n.into _ (returns-clause-samples c)
    (alternating_all Is16Bit (ima_channel 2 0 c.args.bytes.now) (ima_channel 2 1 c.args.bytes.now) (channel_range 2 0 c.args.bytes.now l.predictor (record { least = l.low; most = l.high }) c.of_head-left.ensures.predictor)
    (channel_range 2 1 c.args.bytes.now r.predictor (record { least = r.low; most = r.high }) c.of_head-right.ensures.predictor))
