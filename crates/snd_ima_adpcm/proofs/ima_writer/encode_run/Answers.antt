use Rattle.std.proofs.Common.{◌≡◌, ◌+◌, ◌*◌, [], ◌∷◌, ◌++◌, drop, pos, get_or, arith, rules, sym, ap, ◌∙◌}
use Rattle.std.proofs.lemmas.Grind.{common_steps}
use Rattle.snd_ima_adpcm.specs.Ima.{ima_codes, ima_predictor_after, ima_index_after}
use Rattle.snd_ima_adpcm.proofs.ImaWritten.{Follows, ima_codes-sample, predictor_after-sample, index_after-sample, one_byte}
use Rattle.snd_ima_adpcm.proofs.Pairs.{drop_two}
use Rattle.snd_ima_adpcm.proofs.ima_writer.encode_run.Goals as goal

pub loop-n-preserved : goal.loop-n-preserved
loop-n-preserved c =
    let n = c.loop-n.n in
    let s = c.loop-n.place.state in
    let middle = c.encode-low.result.1.state in
    let end = c.encode-high.result.1.state in
    let x = get_or c.args.samples.now (2 * n) (pos 0) in
    let y = get_or c.args.samples.now (2 * n + 1) (pos 0) in
    let rest = drop (2 * (n + 1)) c.args.samples.now in
    let pair : drop (2 * n) c.args.samples.now ≡ x ∷ y ∷ rest = drop_two c.args.samples.now n (pos 0) (omega arith) in
    let first : Follows s x c.encode-low.result.0 middle = record { coded = search rules; predictor = search rules; index = search rules } in
    let second : Follows middle y c.encode-high.result.0 end = record { coded = search rules; predictor = search rules; index = search rules } in
    let codes : ima_codes s.predictor s.index (drop (2 * n) c.args.samples.now) ≡ c.encode-low.result.0 ∷ c.encode-high.result.0 ∷ ima_codes end.predictor end.index rest =
    ap (λ xs. ima_codes s.predictor s.index xs) pair ∙ ima_codes-sample s middle x _ (y ∷ rest) first ∙ ap (λ cs. c.encode-low.result.0 ∷ cs) (ima_codes-sample middle end y _ rest second) in
    let pushed : c.push.new.self.items ≡ c.loop-n.into.items ++ (c.encode-low.result.0 + 16 * c.encode-high.result.0) ∷ [] = search rules in
    record {
      so_far = one_byte _ _ _ _ _ _ _ pushed codes c.loop-n.invariant.so_far;
      count = grind (arith, common_steps);
      predictor = sym (ap (λ xs. ima_predictor_after s.predictor s.index xs) pair ∙ predictor_after-sample s middle x _ (y ∷ rest) first ∙ predictor_after-sample middle end y _ rest second) ∙ c.loop-n.invariant.predictor;
      index = sym (ap (λ xs. ima_index_after s.predictor s.index xs) pair ∙ index_after-sample s middle x _ (y ∷ rest) first ∙ index_after-sample middle end y _ rest second) ∙ c.loop-n.invariant.index;
    }
