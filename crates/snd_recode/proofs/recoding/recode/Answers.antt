use Rattle.std.proofs.Common.{rules, ◌≡◌, ◌∙◌, ap, sym, List, ℕ}
use Rattle.snd_container.specs.Fixed.{samples, samples_bytes}
use Rattle.snd_container.specs.declared.fixed.Fixed.{Fixed}
use Rattle.snd_container.specs.declared.fixed.Fixed.TheVariants.{ALaw, Linear, MuLaw}
use Rattle.snd_fields.specs.declared.field.Order.TheVariants.{Little}
use Rattle.snd_pcm.specs.declared.linear.Linear.TheVariants.{S16}
use Rattle.snd_recode.specs.Recoded.{recoded}
use Rattle.snd_recode.proofs.Numbers.{all_same_width}
use Rattle.snd_recode.proofs.recoding.recode.Goals as goal

-- the pair of linear samples of 16 bits
abbrev pair : Fixed
pair = Linear (S16 Little)

-- of codecs that have one width
as_they_are : (from to old new : Fixed) (bytes made : List ℕ) → from ≡ old → to ≡ new → recoded old new (samples old bytes) ≡ samples old bytes
    → made ≡ samples_bytes new (samples old bytes) → made ≡ samples_bytes to (recoded from to (samples from bytes))
as_they_are from to old new bytes made from_is to_is same is =
    is ∙ ap (samples_bytes new) (sym same)
    ∙ ap (λ (f : Fixed). samples_bytes new (recoded f new (samples f bytes))) (sym from_is)
    ∙ ap (λ (t : Fixed). samples_bytes t (recoded from t (samples from bytes))) (sym to_is)

pub returns-in-MuLaw-Linear-S16-Little : goal.returns-in-MuLaw-Linear-S16-Little
returns-in-MuLaw-Linear-S16-Little c =
    let bytes = c.args.bytes.now in
    as_they_are c.args.from c.args.to MuLaw pair bytes c.mulaw_as_linear.new.into (search rules) (search rules) (all_same_width 16 (samples MuLaw bytes)) c.mulaw_as_linear.ensures

pub returns-in-ALaw-Linear-S16-Little : goal.returns-in-ALaw-Linear-S16-Little
returns-in-ALaw-Linear-S16-Little c =
    let bytes = c.args.bytes.now in
    as_they_are c.args.from c.args.to ALaw pair bytes c.alaw_as_linear.new.into (search rules) (search rules) (all_same_width 16 (samples ALaw bytes)) c.alaw_as_linear.ensures

pub returns-in-Linear-S16-Little-MuLaw : goal.returns-in-Linear-S16-Little-MuLaw
returns-in-Linear-S16-Little-MuLaw c =
    let bytes = c.args.bytes.now in
    as_they_are c.args.from c.args.to pair MuLaw bytes c.linear_as_mulaw.new.into (search rules) (search rules) (all_same_width 16 (samples pair bytes)) c.linear_as_mulaw.ensures

pub returns-in-Linear-S16-Little-ALaw : goal.returns-in-Linear-S16-Little-ALaw
returns-in-Linear-S16-Little-ALaw c =
    let bytes = c.args.bytes.now in
    as_they_are c.args.from c.args.to pair ALaw bytes c.linear_as_alaw.new.into (search rules) (search rules) (all_same_width 16 (samples pair bytes)) c.linear_as_alaw.ensures
