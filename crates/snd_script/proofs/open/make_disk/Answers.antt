use Rattle.std.proofs.Common.{◌≡◌, ◌∙◌, true, ap, rules, subst, sym}
use Rattle.snd_layout.specs.Blocks.{is_adpcm}
use Rattle.snd_layout.specs.Shape.{Shape}
use Rattle.snd_rules.specs.SmallBlocks.{AreSmall}
use Rattle.snd_script.proofs.HeadParams.{new_params}
use Rattle.snd_rules.proofs.Public.{few_for_numbers}
use Rattle.snd_script.proofs.open.make_disk.Goals as goal

pub returns-in-Ok-clause-small : goal.returns-in-Ok-clause-small
returns-in-Ok-clause-small g c = λ in_blocks.
    let blocks : is_adpcm c.args.params.codec ≡ true = search rules in
    let form = c.are_blocks.ensures in
    subst AreSmall (sym (ap (λ (h : Shape). h.params) c.in-Ok.ensures.shape ∙ new_params c.args.kind c.args.params))
    (record { bytes = c.requires.2 blocks; numbers = few_for_numbers c.args.params.channels c.args.params.codec form.channels form.form })
