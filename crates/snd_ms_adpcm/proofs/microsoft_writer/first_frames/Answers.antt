use Rattle.std.proofs.Common.{◌≡◌, ◌+◌, ◌*◌, [], ◌∷◌, ◌++◌, pos, get_or, arith, rules, sym, ap, ◌∙◌}
use Rattle.snd_ima_adpcm.proofs.Public.{take-firsts-more, take-seconds-more}
use Rattle.snd_ms_adpcm.proofs.microsoft_writer.first_frames.Goals as goal

pub loop-n-preserved : goal.loop-n-preserved
loop-n-preserved c =
    let n = c.loop-n.n in
    let frames = c.args.frames.now in
    let one : c.push.new.self.items ≡ c.loop-n.left.items ++ get_or frames (2 * n) (pos 0) ∷ [] = search rules in
    let two : c.push-in-loop-n.new.self.items ≡ c.loop-n.right.items ++ get_or frames (2 * n + 1) (pos 0) ∷ [] = search rules in
    record {
      left = one ∙ ap (λ xs. xs ++ get_or frames (2 * n) (pos 0) ∷ []) c.loop-n.invariant.left ∙ sym (take-firsts-more frames n (pos 0) (omega arith));
      right = two ∙ ap (λ xs. xs ++ get_or frames (2 * n + 1) (pos 0) ∷ []) c.loop-n.invariant.right ∙ sym (take-seconds-more frames n (pos 0) (omega arith));
    }
