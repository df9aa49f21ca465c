use Rattle.std.proofs.Common.{All, subst, sym, arith}
use Rattle.snd_fields.proofs.Numbers.{all_from_bytes}
use Rattle.snd_pcm.proofs.RoundTrips.{samples_are_in_range}
use Rattle.snd_pcm.specs.Pcm.{InRange}
use Rattle.snd_pcm.proofs.blocks.read_samples.Goals as goal

pub returns-clause-in_range : goal.returns-clause-in_range
returns-clause-in_range c =
    subst (All (InRange c.args.form)) (sym c.read_by_form.ensures)
    (samples_are_in_range c.args.form c.args.bytes.now (all_from_bytes c.args.bytes.now (λ i. omega (arith, c.type_inv.bytes i))))
