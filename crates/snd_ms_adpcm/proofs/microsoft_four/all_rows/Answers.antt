use Rattle.std.proofs.Common.{rules, ◌≡◌, ◌∙◌, sym, subst, ℕ, ◌<◌, inl, inr, length, arith}
use Rattle.std.proofs.lemmas.Bool.{cases_lt}
use Rattle.std.proofs.lemmas.Grind.{get_or-set_at}
use Rattle.std.proofs.lemmas.List.{get_or-set_other, length-set}
use Rattle.snd_ms_adpcm.specs.Four.{IsRow}
use Rattle.snd_ms_adpcm.specs.declared.microsoft_four.Row.{Row}
use Rattle.snd_ms_adpcm.proofs.microsoft_four.all_rows.Goals as goal

pub loop-byte-preserved : goal.loop-byte-preserved
loop-byte-preserved c =
    let rows = c.loop-byte.rows in
    let byte = c.loop-byte.byte in
    let new = c.row_of.result in
    let long : length rows ≡ 256 = c.loop-byte.invariant.long in
    let below : byte < 256 = search rules in
    record {
      long = length-set rows byte new ∙ long;
      rows = λ b row lt. elim (cases_lt b byte) [
        | inl before ↦ subst (λ (r : Row). IsRow b r) (sym (get_or-set_other rows byte b new row (λ same. absurd (omega (arith, before, same))))) (c.loop-byte.invariant.rows b row before)
        | inr le ↦
            let here : b ≡ byte = omega (arith, le, lt) in
            subst (λ (r : Row). IsRow b r) (sym (get_or-set_at rows byte b new row here (omega (arith, long, below)))) (subst (λ (k : ℕ). IsRow k new) (sym here) c.row_of.ensures)
      ];
    }
