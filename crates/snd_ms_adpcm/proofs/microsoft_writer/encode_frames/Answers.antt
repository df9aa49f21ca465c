use Rattle.std.proofs.Common.{◌≡◌, ◌+◌, ◌*◌, [], ◌∷◌, ◌++◌, drop, pos, get_or, arith, rules, ap, ◌∙◌}
use Rattle.std.proofs.lemmas.Grind.{common_steps}
use Rattle.snd_ima_adpcm.specs.Frames.{Is16Bit, alternating, firsts, seconds}
use Rattle.snd_ms_adpcm.proofs.MsWritten.{Follows, codes_of, codes_of-sample, one_byte}
use Rattle.snd_ima_adpcm.proofs.Public.{alternating-same, drop_two}
use Rattle.snd_ms_adpcm.proofs.microsoft_writer.encode_frames.Goals as goal

pub loop-n-preserved : goal.loop-n-preserved
loop-n-preserved c =
    let n = c.loop-n.n in
    let left = c.loop-n.left in
    let right = c.loop-n.right in
    let l = c.encode-high.result.1 in
    let r = c.encode-low.result.1 in
    let x = get_or c.args.frames.now (2 * n) (pos 0) in
    let y = get_or c.args.frames.now (2 * n + 1) (pos 0) in
    let rest = drop (2 * (n + 1)) c.args.frames.now in
    let pair : drop (2 * n) c.args.frames.now ≡ x ∷ y ∷ rest = drop_two c.args.frames.now n (pos 0) (omega arith) in
    let first : Follows left x c.encode-high.result.0 l = record { coded = search rules; newer = search rules; older = search rules; delta = search rules; newer_by = search rules; older_by = search rules } in
    let second : Follows right y c.encode-low.result.0 r = record { coded = search rules; newer = search rules; older = search rules; delta = search rules; newer_by = search rules; older_by = search rules } in
    let codes : alternating (codes_of left (firsts (drop (2 * n) c.args.frames.now))) (codes_of right (seconds (drop (2 * n) c.args.frames.now)))
    ≡ c.encode-high.result.0 ∷ c.encode-low.result.0 ∷ alternating (codes_of l (firsts rest)) (codes_of r (seconds rest)) =
    alternating-same _ _ _ _
    (ap (λ xs. codes_of left (firsts xs)) pair ∙ codes_of-sample left l x c.encode-high.result.0 (firsts rest) first)
    (ap (λ xs. codes_of right (seconds xs)) pair ∙ codes_of-sample right r y c.encode-low.result.0 (seconds rest) second) in
    let pushed : c.push.new.self.items ≡ c.loop-n.into.items ++ (16 * c.encode-high.result.0 + c.encode-low.result.0) ∷ [] = search rules in
    record { so_far = one_byte _ _ _ _ _ _ _ pushed codes c.loop-n.invariant.so_far; count = grind (arith, common_steps); left_delta = search rules; right_delta = search rules }

pub encode-low-requires-clause-sample : goal.encode-low-requires-clause-sample
encode-low-requires-clause-sample c =
    let within : Is16Bit (get_or c.args.frames.now (2 * c.loop-n.n + 1) (pos 0)) = c.requires.range (2 * c.loop-n.n + 1) (pos 0) (omega arith) in
    search rules

pub encode-high-requires-clause-sample : goal.encode-high-requires-clause-sample
encode-high-requires-clause-sample c =
    let within : Is16Bit (get_or c.args.frames.now (2 * c.loop-n.n) (pos 0)) = c.requires.range (2 * c.loop-n.n) (pos 0) (omega arith) in
    search rules
