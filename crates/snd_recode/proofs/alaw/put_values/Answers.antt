use Rattle.std.proofs.Common.{rules, ◌∙◌, ap, sym, subst, ℕ, ◌<◌, List, [], ◌∷◌, FitsSigned, get_or, arith}
use Rattle.std.specs.Int.{w16}
use Rattle.snd_fields.specs.declared.field.Order.TheVariants.{Little}
use Rattle.snd_g711.specs.Alaw.{alaw_value}
use Rattle.snd_g711.proofs.AlawLemmas.{alaw_value_fits}
use Rattle.snd_pcm.specs.Pcm.{sample_bytes}
use Rattle.snd_pcm.specs.declared.linear.Linear.TheVariants.{S16}
use Rattle.snd_recode.proofs.Codes.{alaw_value_at}
use Rattle.snd_recode.proofs.Loops.{law_step}
use Rattle.snd_recode.proofs.alaw.put_values.Goals as goal

pub bytes_of-requires : goal.bytes_of-requires
bytes_of-requires c =
    let bytes = c.args.bytes.now in
    let i = c.loop-i.i in
    let lt : get_or bytes i 0 < 256 = search rules in
    subst (FitsSigned w16) (sym (alaw_value_at bytes c.args.factors.now c.args.halves.now i c.loop-i-test.true lt c.requires.factors c.requires.halves)) (alaw_value_fits (get_or bytes i 0))

pub loop-i-preserved : goal.loop-i-preserved
loop-i-preserved c =
    let bytes = c.args.bytes.now in
    let i = c.loop-i.i in
    let lt : get_or bytes i 0 < 256 = search rules in
    let value = alaw_value_at bytes c.args.factors.now c.args.halves.now i c.loop-i-test.true lt c.requires.factors c.requires.halves in
    law_step alaw_value bytes c.loop-i.into i _ _ (omega (arith, c.requires.room, c.loop-i.auto.into)) c.loop-i-test.true
    (ap (λ (l : List ℕ). get_or l 0 0 ∷ get_or l 1 0 ∷ []) (c.bytes_of.ensures ∙ ap (sample_bytes (S16 Little)) value)) c.loop-i.invariant
