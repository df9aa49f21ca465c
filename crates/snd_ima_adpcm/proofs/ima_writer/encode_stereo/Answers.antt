use Rattle.std.proofs.Common.{◌≡◌, [], ◌∷◌, ◌++◌, pos, drop, get_or, arith, rules, sym, ap, ◌∙◌}
use Rattle.snd_ima_adpcm.specs.Frames.{bytes_16, bytes_low_half_first, firsts, seconds, fours}
use Rattle.snd_ima_adpcm.specs.Ima.{ima_codes, ima_head, ima_body, ima_next_index, ima_index_after}
use Rattle.snd_ima_adpcm.proofs.Pairs.{first_two}
use Rattle.snd_ima_adpcm.proofs.ima_writer.encode_stereo.Goals as goal

pub returns-clause-bytes : goal.returns-clause-bytes
returns-clause-bytes c =
    let samples = c.args.samples.now in
    let x = get_or samples 0 (pos 0) in
    let y = get_or samples 1 (pos 0) in
    let rest = drop 2 samples in
    let cons : samples ≡ x ∷ y ∷ rest = first_two samples (pos 0) (omega arith) in
    let heads : c.put_head-2.new.into.items ≡ (bytes_16 x ++ c.args.left ∷ 0 ∷ []) ++ (bytes_16 y ++ c.args.right ∷ 0 ∷ []) = search rules in
    let frames : c.split_at.result.1.now ≡ rest = search rules in
    let codes : c.encode_frames.new.into.items ≡ c.put_head-2.new.into.items ++ fours (bytes_low_half_first (ima_codes x c.args.left (firsts rest))) (bytes_low_half_first (ima_codes y c.args.right (seconds rest))) = search rules in
    rw (codes, heads) (ap (λ xs. ima_head c.args.left (firsts xs) ++ ima_head c.args.right (seconds xs) ++ fours (ima_body c.args.left (firsts xs)) (ima_body c.args.right (seconds xs))) (sym cons))

pub returns-clause-left : goal.returns-clause-left
returns-clause-left c =
    let samples = c.args.samples.now in
    let x = get_or samples 0 (pos 0) in
    let rest = drop 2 samples in
    let cons : samples ≡ x ∷ get_or samples 1 (pos 0) ∷ rest = first_two samples (pos 0) (omega arith) in
    let index : c.encode_frames.result.0.index ≡ ima_index_after x c.args.left (firsts rest) = search rules in
    index ∙ ap (λ xs. ima_next_index c.args.left (firsts xs)) (sym cons)

pub returns-clause-right : goal.returns-clause-right
returns-clause-right c =
    let samples = c.args.samples.now in
    let y = get_or samples 1 (pos 0) in
    let rest = drop 2 samples in
    let cons : samples ≡ get_or samples 0 (pos 0) ∷ y ∷ rest = first_two samples (pos 0) (omega arith) in
    let index : c.encode_frames.result.1.index ≡ ima_index_after y c.args.right (seconds rest) = search rules in
    index ∙ ap (λ xs. ima_next_index c.args.right (seconds xs)) (sym cons)
