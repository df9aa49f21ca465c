use Rattle.std.proofs.Common.{◌∙◌, ap, ℕ, ◌-◌, ◌/◌, ◌^◌}
use Rattle.snd_recode.proofs.Codes.{alaw_factor_is}
use Rattle.snd_recode.proofs.alaw.factor_of.Goals as goal

pub returns : goal.returns
returns c = c.max.ensures ∙ alaw_factor_is c.code_in.result c.code_in.ensures.few ∙ ap (λ (k : ℕ). 2 ^ (k / 16 - 1)) c.code_in.ensures.value
