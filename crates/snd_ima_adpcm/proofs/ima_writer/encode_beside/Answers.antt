use Rattle.std.proofs.Common.{rules, ◌≡◌, ◌∙◌, ap, sym, refl, ◌+◌, ◌*◌, ◌∷◌, drop, pos, get_or, arith}
use Rattle.snd_ima_adpcm.specs.Frames.{firsts, seconds}
use Rattle.snd_ima_adpcm.specs.Ima.{ima_codes, ima_predictor_after, ima_index_after}
use Rattle.snd_ima_adpcm.proofs.ImaWritten.{Follows, byte_put, ima_codes-sample, index_after-sample, predictor_after-sample}
use Rattle.snd_ima_adpcm.proofs.Pairs.{drop_four}
use Rattle.snd_ima_adpcm.proofs.ima_writer.encode_beside.Goals as goal

pub loop-n-preserved : goal.loop-n-preserved
loop-n-preserved c =
    let n = c.loop-n.n in
    let inv = c.loop-n.invariant in
    let frames = c.args.frames.now in
    let x = get_or frames (4 * n) (pos 0) in
    let z = get_or frames (4 * n + 1) (pos 0) in
    let y = get_or frames (4 * n + 2) (pos 0) in
    let w = get_or frames (4 * n + 3) (pos 0) in
    let rest = drop (4 * (n + 1)) frames in
    let four : drop (4 * n) frames ≡ x ∷ z ∷ y ∷ w ∷ rest = drop_four frames n (pos 0) (omega arith) in
    let s = c.loop-n.left.state in
    let middle = c.encode-low.result.1.state in
    let end = c.encode-high.result.1.state in
    let first : Follows s x c.encode-low.result.0 middle = record { coded = search rules; predictor = search rules; index = search rules } in
    let second : Follows middle y c.encode-high.result.0 end = record { coded = search rules; predictor = search rules; index = search rules } in
    let codes : ima_codes s.predictor s.index (firsts (drop (4 * n) frames)) ≡ c.encode-low.result.0 ∷ c.encode-high.result.0 ∷ ima_codes end.predictor end.index (firsts rest) =
    ap (λ xs. ima_codes s.predictor s.index (firsts xs)) four ∙ ima_codes-sample s middle x _ (y ∷ firsts rest) first ∙ ap (λ cs. c.encode-low.result.0 ∷ cs) (ima_codes-sample middle end y _ (firsts rest) second) in
    let t = c.loop-n.right.state in
    let t_middle = c.encode-right_low.result.1.state in
    let t_end = c.encode-right_high.result.1.state in
    let third : Follows t z c.encode-right_low.result.0 t_middle = record { coded = search rules; predictor = search rules; index = search rules } in
    let fourth : Follows t_middle w c.encode-right_high.result.0 t_end = record { coded = search rules; predictor = search rules; index = search rules } in
    let t_codes : ima_codes t.predictor t.index (seconds (drop (4 * n) frames)) ≡ c.encode-right_low.result.0 ∷ c.encode-right_high.result.0 ∷ ima_codes t_end.predictor t_end.index (seconds rest) =
    ap (λ xs. ima_codes t.predictor t.index (seconds xs)) four ∙ ima_codes-sample t t_middle z _ (w ∷ seconds rest) third ∙ ap (λ cs. c.encode-right_low.result.0 ∷ cs) (ima_codes-sample t_middle t_end w _ (seconds rest) fourth) in
    record {
      left = byte_put c.loop-n.one _ _ n _ _ _ _ _ (omega (arith, inv.left_len)) (search rules) refl codes inv.left;
      left_predictor = sym (ap (λ xs. ima_predictor_after s.predictor s.index (firsts xs)) four ∙ predictor_after-sample s middle x _ (y ∷ firsts rest) first ∙ predictor_after-sample middle end y _ (firsts rest) second) ∙ inv.left_predictor;
      left_index = sym (ap (λ xs. ima_index_after s.predictor s.index (firsts xs)) four ∙ index_after-sample s middle x _ (y ∷ firsts rest) first ∙ index_after-sample middle end y _ (firsts rest) second) ∙ inv.left_index;
      right = byte_put c.loop-n.two _ _ n _ _ _ _ _ (omega (arith, inv.right_len)) (search rules) refl t_codes inv.right;
      right_predictor = sym (ap (λ xs. ima_predictor_after t.predictor t.index (seconds xs)) four ∙ predictor_after-sample t t_middle z _ (w ∷ seconds rest) third ∙ predictor_after-sample t_middle t_end w _ (seconds rest) fourth) ∙ inv.right_predictor;
      right_index = sym (ap (λ xs. ima_index_after t.predictor t.index (seconds xs)) four ∙ index_after-sample t t_middle z _ (w ∷ seconds rest) third ∙ index_after-sample t_middle t_end w _ (seconds rest) fourth) ∙ inv.right_index;
      left_len = search rules;
      right_len = search rules;
    }
