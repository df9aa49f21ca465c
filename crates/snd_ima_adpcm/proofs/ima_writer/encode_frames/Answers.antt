use Rattle.std.proofs.Common.{rules, ◌≡◌, ◌+◌, ◌-◌, ◌*◌, ◌++◌, drop, length, arith, sym, ap, ◌∙◌}
use Rattle.std.specs.List.{slice_range}
use Rattle.std.proofs.lemmas.List.{length-append, length-take, length-drop}
use Rattle.std.proofs.lemmas.List.Elements.{All-take, All-drop}
use Rattle.snd_ima_adpcm.specs.Frames.{Is16Bit, bytes_low_half_first, firsts, seconds}
use Rattle.snd_ima_adpcm.specs.Ima.{ima_codes, ima_predictor_after, ima_index_after}
use Rattle.snd_ima_adpcm.proofs.ImaWritten.{length-bytes_of_eight, rest_of_two-more, two_runs, index_after-append}
use Rattle.snd_ima_adpcm.proofs.Pairs.{length-firsts, length-seconds, part_and_rest, firsts-append, seconds-append}
use Rattle.snd_ima_adpcm.proofs.ima_writer.encode_frames.Goals as goal

pub encode_beside-requires-clause-range : goal.encode_beside-requires-clause-range
encode_beside-requires-clause-range c =
    All-take Is16Bit (16 * c.loop-n.n + 16 - 16 * c.loop-n.n) (drop (16 * c.loop-n.n) c.args.frames.now) (All-drop Is16Bit (16 * c.loop-n.n) c.args.frames.now c.requires.range)

pub loop-n-preserved : goal.loop-n-preserved
loop-n-preserved c =
    let n = c.loop-n.n in
    let frames = c.args.frames.now in
    let part = slice_range frames (16 * n) (16 * n + 16) in
    let rest = drop (16 * (n + 1)) frames in
    let left = c.loop-n.left.state in
    let right = c.loop-n.right.state in
    let l = c.encode_beside.result.0.place.state in
    let r = c.encode_beside.result.1.place.state in
    let next : 16 * n + 16 ≡ 16 * (n + 1) = omega arith in
    let split : drop (16 * n) frames ≡ part ++ rest = part_and_rest frames (16 * n) (16 * n + 16) (omega arith) ∙ ap (λ k. part ++ drop k frames) next in
    let sixteen : length part ≡ 16 = omega (arith, length-take (16 * n + 16 - 16 * n) (drop (16 * n) frames), length-drop (16 * n) frames) in
    let lp : l.predictor ≡ ima_predictor_after left.predictor left.index (firsts part) = c.encode_beside.ensures.left_predictor in
    let li : l.index ≡ ima_index_after left.predictor left.index (firsts part) = c.encode_beside.ensures.left_index in
    let rp : r.predictor ≡ ima_predictor_after right.predictor right.index (seconds part) = c.encode_beside.ensures.right_predictor in
    let ri : r.index ≡ ima_index_after right.predictor right.index (seconds part) = c.encode_beside.ensures.right_index in
    let one : c.try_extend_from_slice.new.self.items ≡ c.loop-n.into.items ++ bytes_low_half_first (ima_codes left.predictor left.index (firsts part)) = search rules in
    let two : c.try_extend_from_slice-in-loop-n.new.self.items ≡ c.try_extend_from_slice.new.self.items ++ bytes_low_half_first (ima_codes right.predictor right.index (seconds part)) = search rules in
    let len_one : length (bytes_low_half_first (ima_codes left.predictor left.index (firsts part))) ≡ 4 = length-bytes_of_eight left.predictor left.index (firsts part) (omega (arith, length-firsts part, sixteen)) in
    let len_two : length (bytes_low_half_first (ima_codes right.predictor right.index (seconds part))) ≡ 4 = length-bytes_of_eight right.predictor right.index (seconds part) (omega (arith, length-seconds part, sixteen)) in
    record {
      so_far = two_runs _ _ _ _ _ _ _ _ one two (rest_of_two-more left right l r (drop (16 * n) frames) part rest sixteen split lp li rp ri) c.loop-n.invariant.so_far;
      count = omega (arith, ap length one, ap length two, length-append c.loop-n.into.items (bytes_low_half_first (ima_codes left.predictor left.index (firsts part))), length-append c.try_extend_from_slice.new.self.items (bytes_low_half_first (ima_codes right.predictor right.index (seconds part))), len_one, len_two, c.loop-n.invariant.count);
      left = sym (ap (λ xs. ima_index_after left.predictor left.index (firsts xs)) split ∙ ap (ima_index_after left.predictor left.index) (firsts-append part rest (omega arith)) ∙ index_after-append left.predictor left.index (firsts part) (firsts rest) ∙ rw (lp, li)) ∙ c.loop-n.invariant.left;
      right = sym (ap (λ xs. ima_index_after right.predictor right.index (seconds xs)) split ∙ ap (ima_index_after right.predictor right.index) (seconds-append part rest (omega arith)) ∙ index_after-append right.predictor right.index (seconds part) (seconds rest) ∙ rw (rp, ri)) ∙ c.loop-n.invariant.right;
    }
