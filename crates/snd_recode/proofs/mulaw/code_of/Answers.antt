use Rattle.std.proofs.Common.{◌≡◌, ◌∙◌, ap, ℕ, ◌-◌, ◌*◌, ◌%◌, arith}
use Rattle.snd_recode.proofs.Codes.{negative, positive}
use Rattle.snd_recode.proofs.mulaw.code_of.Goals as goal

pub returns-then-byte-lt128 : goal.returns-then-byte-lt128
returns-then-byte-lt128 c =
    let byte = c.args.byte in
    let m : c.from.result * c.from-2.result - 132 ≡ (252 - byte % 16 * 8) * c.args.factor - 132 =
    ap (λ (n : ℕ). n * c.from-2.result - 132) c.from.ensures ∙ ap (λ (n : ℕ). (252 - byte % 16 * 8) * n - 132) c.from-2.ensures in
    negative byte c.args.factor _ c.wrapping_neg.result c.if-byte-lt128.true c.requires m (omega arith) c.wrapping_neg.ensures

pub returns-else-byte-lt128 : goal.returns-else-byte-lt128
returns-else-byte-lt128 c =
    let byte = c.args.byte in
    ap (λ (n : ℕ). n * c.from-2.result - 132) c.from.ensures ∙ ap (λ (n : ℕ). (252 - byte % 16 * 8) * n - 132) c.from-2.ensures
    ∙ positive byte c.args.factor c.if-byte-lt128.false (omega arith) c.requires
