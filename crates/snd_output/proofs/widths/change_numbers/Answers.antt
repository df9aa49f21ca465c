use Rattle.std.proofs.Common.{sym, subst, ℕ, All}
use Rattle.snd_pcm.specs.Width.{HasWidth}
use Rattle.snd_output.proofs.Ranges.{fits_width, width_fits}
use Rattle.snd_output.proofs.widths.change_numbers.Goals as goal

pub change_widths-requires-clause-in_range : goal.change_widths-requires-clause-in_range
change_widths-requires-clause-in_range c =
    subst (λ (w : ℕ). All (HasWidth w) c.args.numbers.now) (sym c.width_of.ensures.value) (fits_width c.args.from c.args.numbers.now c.requires)

pub returns-clause-in_range : goal.returns-clause-in_range
returns-clause-in_range c =
    width_fits c.args.to c.change_widths.new.numbers (subst (λ (w : ℕ). All (HasWidth w) c.change_widths.new.numbers) c.width_of-2.ensures.value c.change_widths.ensures.in_range)
