-- Counts of faults of two disks of which one is read and the other is written.
use Rattle.std.proofs.Common.{◌≡◌, ◌∙◌, subst, sym, inl, inr, ◌⊎◌, ℕ, ◌≤◌, Result, Ok, Err, arith}
use Rattle.snd_disk.specs.State.{Rises}
use Rattle.snd_output.specs.Ends.{CountsOneOf, CountsStop, IfChanged}
use Rattle.snd_output.specs.declared.stop.Stop.{Stop}
use Rattle.snd_output.specs.declared.stop.Stop.TheVariants.{Changed, Fault, Memory}

rises_from : (a b c : ℕ) → b ≡ a → Rises b c → Rises a c
rises_from a b c same rises = subst (λ (n : ℕ). Rises n c) same rises

module _ (T U : Type 0) (stop : Stop) (result : Result T Stop) (is : result ≡ Err stop) where
  -- after calls that did not fail, the one that is read has stopped
  pub first_stops : (a b c x y : ℕ) → b ≡ a → y ≡ x → CountsStop {T = U} b c (Err stop) → CountsOneOf a c x y result
  first_stops a b c x y calm same counts = subst (CountsOneOf a c x y) (sym is) (by_stop stop counts)
    where
      by_stop : (s : Stop) → CountsStop {T = U} b c (Err s) → CountsOneOf {T = T} a c x y (Err s)
      by_stop Fault counts = (omega (arith, calm, counts.0), omega (arith, same), inl (rises_from a b c calm counts.1))
      by_stop Memory counts = (counts ∙ calm, same)
      by_stop Changed counts = (counts ∙ calm, same)

  -- .. or the other
  pub second_stops : (a c x y z : ℕ) → c ≡ a → y ≡ x → CountsStop {T = U} y z (Err stop) → CountsOneOf a c x z result
  second_stops a c x y z calm same counts = subst (CountsOneOf a c x z) (sym is) (by_stop stop counts)
    where
      by_stop : (s : Stop) → CountsStop {T = U} y z (Err s) → CountsOneOf {T = T} a c x z (Err s)
      by_stop Fault counts = (omega (arith, calm), omega (arith, same, counts.0), inr (rises_from x y z same counts.1))
      by_stop Memory counts = (calm, counts ∙ same)
      by_stop Changed counts = (calm, counts ∙ same)

  -- .. or one of both
  pub one_stops : (a b c x y z : ℕ) → b ≡ a → y ≡ x → CountsOneOf {T = U} b c y z (Err stop) → CountsOneOf a c x z result
  one_stops a b c x y z calm same counts = subst (CountsOneOf a c x z) (sym is) (by_stop stop counts)
    where
      by_stop : (s : Stop) → CountsOneOf {T = U} b c y z (Err s) → CountsOneOf {T = T} a c x z (Err s)
      by_stop Fault counts = (
        omega (arith, calm, counts.0),
        omega (arith, same, counts.1),
        elim counts.2 [ inl rose ↦ inl (rises_from a b c calm rose) | inr rose ↦ inr (rises_from x y z same rose) ],
      )
      by_stop Memory counts = (counts.0 ∙ calm, counts.1 ∙ same)
      by_stop Changed counts = (counts.0 ∙ calm, counts.1 ∙ same)

-- the last call, of the disk that is written
pub second_ends : {T : Type 0} (a c x y z : ℕ) (result : Result T Stop) → c ≡ a → y ≡ x → CountsStop y z result → CountsOneOf a c x z result
second_ends a c x y z (Ok done) calm same counts = (calm, counts ∙ same)
second_ends a c x y z (Err Fault) calm same counts = (omega (arith, calm), omega (arith, same, counts.0), inr (rises_from x y z same counts.1))
second_ends a c x y z (Err Memory) calm same counts = (calm, counts ∙ same)
second_ends a c x y z (Err Changed) calm same counts = (calm, counts ∙ same)

-- where there is no memory, no file has changed
pub memory_only : {T : Type 0} (P : Type 0) (stop : Stop) (result : Result T Stop) → result ≡ Err stop → stop ≡ Memory → IfChanged P result
memory_only {T = T} P stop result is only = subst (IfChanged P) (sym is) (subst (λ (s : Stop). IfChanged {T = T} P (Err s)) (sym only) tt)
