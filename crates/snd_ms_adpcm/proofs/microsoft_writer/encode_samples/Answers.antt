use Rattle.std.proofs.Common.{◌≡◌, ◌+◌, ◌*◌, [], ◌∷◌, ◌++◌, drop, pos, get_or, arith, rules, ap, ◌∙◌}
use Rattle.std.proofs.lemmas.Grind.{common_steps}
use Rattle.snd_ima_adpcm.specs.Frames.{Is16Bit}
use Rattle.snd_ms_adpcm.proofs.MsWritten.{Follows, codes_of, codes_of-sample, one_byte}
use Rattle.snd_ima_adpcm.proofs.Public.{drop_two}
use Rattle.snd_ms_adpcm.proofs.microsoft_writer.encode_samples.Goals as goal

pub loop-n-preserved : goal.loop-n-preserved
loop-n-preserved c =
    let n = c.loop-n.n in
    let s = c.loop-n.state in
    let middle = c.encode-high.result.1 in
    let end = c.encode-low.result.1 in
    let x = get_or c.args.samples.now (2 * n) (pos 0) in
    let y = get_or c.args.samples.now (2 * n + 1) (pos 0) in
    let rest = drop (2 * (n + 1)) c.args.samples.now in
    let pair : drop (2 * n) c.args.samples.now ≡ x ∷ y ∷ rest = drop_two c.args.samples.now n (pos 0) (omega arith) in
    let first : Follows s x c.encode-high.result.0 middle = record { coded = search rules; newer = search rules; older = search rules; delta = search rules; newer_by = search rules; older_by = search rules } in
    let second : Follows middle y c.encode-low.result.0 end = record { coded = search rules; newer = search rules; older = search rules; delta = search rules; newer_by = search rules; older_by = search rules } in
    let codes : codes_of s (drop (2 * n) c.args.samples.now) ≡ c.encode-high.result.0 ∷ c.encode-low.result.0 ∷ codes_of end rest =
    ap (codes_of s) pair ∙ codes_of-sample s middle x _ (y ∷ rest) first ∙ ap (λ cs. c.encode-high.result.0 ∷ cs) (codes_of-sample middle end y _ rest second) in
    let pushed : c.push.new.self.items ≡ c.loop-n.into.items ++ (16 * c.encode-high.result.0 + c.encode-low.result.0) ∷ [] = search rules in
    record { so_far = one_byte _ _ _ _ _ _ _ pushed codes c.loop-n.invariant.so_far; count = grind (arith, common_steps); delta = search rules }

pub encode-high-requires-clause-sample : goal.encode-high-requires-clause-sample
encode-high-requires-clause-sample c =
    let within : Is16Bit (get_or c.args.samples.now (2 * c.loop-n.n) (pos 0)) = c.requires.range (2 * c.loop-n.n) (pos 0) (omega arith) in
    search rules

pub encode-low-requires-clause-sample : goal.encode-low-requires-clause-sample
encode-low-requires-clause-sample c =
    let within : Is16Bit (get_or c.args.samples.now (2 * c.loop-n.n + 1) (pos 0)) = c.requires.range (2 * c.loop-n.n + 1) (pos 0) (omega arith) in
    search rules
