-- The counts of faults after one step and then another.
use Rattle.std.proofs.Common.{◌≡◌, ℕ, ◌∙◌, subst}
use Rattle.snd_disk.specs.State.{Rises}
use Rattle.snd_script.specs.Served.{FaultCounts, SameCounts}
use Rattle.snd_script.specs.Serving.{CountsAt}
use Rattle.snd_script.specs.declared.stop.Stop.{Stop}
use Rattle.snd_script.specs.declared.stop.Stop.TheVariants.{Ended, TooLong, Script, Sink, File, Memory}

pub all_same_then : (a b c : FaultCounts) → SameCounts a b → SameCounts b c → SameCounts a c
all_same_then a b c first second = record { shelf = second.shelf ∙ first.shelf; script = second.script ∙ first.script; out = second.out ∙ first.out }

rises_from : (a b c : ℕ) → b ≡ a → Rises b c → Rises a c
rises_from a b c same rose = subst (λ (n : ℕ). Rises n c) same rose

pub counted_behind : (stop : Stop) (a b c : FaultCounts) → SameCounts a b → CountsAt stop b c → CountsAt stop a c
counted_behind Ended a b c same counts = all_same_then a b c same counts
counted_behind TooLong a b c same counts = all_same_then a b c same counts
counted_behind Memory a b c same counts = all_same_then a b c same counts
counted_behind Script a b c same counts = (counts.0 ∙ same.shelf, rises_from a.script b.script c.script same.script counts.1, counts.2 ∙ same.out)
counted_behind Sink a b c same counts = (counts.0 ∙ same.shelf, counts.1 ∙ same.script, rises_from a.out b.out c.out same.out counts.2)
counted_behind File a b c same counts = rises_from a.shelf b.shelf c.shelf same.shelf counts
