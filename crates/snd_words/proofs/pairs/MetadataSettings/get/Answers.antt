use Rattle.std.proofs.Common.{◌≤◌, length, slice_get, sym, ap, ◌∙◌, arith}
use Rattle.std.proofs.lemmas.Option.{slice_get_past}
use Rattle.snd_words.specs.Metadata.{stated_pair}
use Rattle.snd_words.proofs.Coupled.{get_all, length_all}
use Rattle.snd_words.proofs.pairs.MetadataSettings.get.Goals as goal

pub returns-then-at-self : goal.returns-then-at-self
returns-then-at-self c =
    c.setting_at.ensures ∙ sym (get_all stated_pair _ _ c.args.at c.self.invariant.known) ∙ ap (λ l. slice_get l c.args.at) c.self.view_is

pub returns : goal.returns
returns c =
    let past : length c.args.self.now ≤ c.args.at = omega (arith, length_all stated_pair _ _ c.self.invariant.known, ap length c.self.view_is) in
    sym (slice_get_past c.args.self.now c.args.at past)
