use Rattle.std.proofs.Common.{◌∙◌, ap, length}
use Rattle.snd_racking.proofs.Passed.{refilled}
use Rattle.snd_racking.proofs.coding.read_into.Goals as goal

pub returns : goal.returns
returns g =
    let items = g.make_as_long.new.list.items in
    refilled (length items) items g.read_samples.new.into (g.read_samples.auto.into ∙ ap length g.as_mut_slice.ensures.value) ∙ g.read_samples.ensures.read
