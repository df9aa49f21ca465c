use Rattle.std.proofs.Common.{◌≡◌, List, ℤ, map, All, FitsSigned, sym, subst, arith}
use Rattle.std.proofs.lemmas.Grind.{common_steps}
use Rattle.std.specs.Int.{w16}
use Rattle.snd_g711.specs.Mulaw.{mulaw_value}
use Rattle.snd_g711.proofs.MulawLemmas.{all_values_fit}
use Rattle.snd_g711.proofs.mulaw.mulaw_decode_all.Goals as goal

pub returns-clause-in_range : goal.returns-clause-in_range
returns-clause-in_range c =
    let P : List ℤ → Type 0 = All (FitsSigned w16) in
    let e : c.loop-i.into ≡ map mulaw_value c.args.bytes.now = grind (arith, common_steps) in
    subst P (sym e) (all_values_fit c.args.bytes.now)
