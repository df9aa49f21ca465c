-- How a file ends that is made of inputs.
use Rattle.std.proofs.Common.{◌≡◌, sym, subst, inl, inr, ◌⊎◌, ℕ, ◌≤◌, List, true, Result, Err}
use Rattle.std.specs.Prelude.{is_some}
use Rattle.snd_disk.specs.declared.disk.Disk.{Ghosts}
use Rattle.snd_disk.specs.State.{Rises, State}
use Rattle.snd_edits.specs.Known.{Known}
use Rattle.snd_output.specs.Ends.{BreaksByFault}
use Rattle.snd_output.specs.declared.stop.Stop.{Stop}
use Rattle.snd_output.specs.declared.stop.Stop.TheVariants.{Fault}
use Rattle.snd_interleave.specs.Channels.{CountsWith}
use Rattle.snd_inputs.specs.declared.input.Input.{Input}
use Rattle.snd_interleave.proofs.Counts.{counts_broken, counts_unfinished}

-- a file that is not finished
module _ {D : Type 0} {ghosts : Ghosts D} (state : D → State) (xs ys : List (Input D ghosts)) (a b c : ℕ) where
  pub counts_not_finished : (r : Result (Unit {0}) Stop) (stop : Stop) (to : Known) → BreaksByFault to r → stop ≡ Fault → CountsWith state xs ys a c r
      → ((is_some to.broken ≡ true) × (b ≡ c)) ⊎ ((c ≤ b) × Rises c b) → CountsWith {T = Unit {0}} state xs ys a b (Err stop)
  counts_not_finished r stop to works is counts (inl before) =
      subst (λ (s : Stop). CountsWith {T = Unit {0}} state xs ys a b (Err s)) (sym is) (counts_broken state xs ys a b c (Unit {0}) r to works before.0 before.1 counts)
  counts_not_finished r stop to works is counts (inr now) =
      subst (λ (s : Stop). CountsWith {T = Unit {0}} state xs ys a b (Err s)) (sym is) (counts_unfinished state xs ys a b c (Unit {0}) r now.0 now.1 counts)
