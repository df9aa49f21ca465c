-- Counts of faults, where a disk comes back to its shelf.
use Rattle.std.proofs.Common.{◌≡◌, inl, inr, ◌⊎◌, ℕ, ◌≤◌, ◌<◌, Result, Ok, Err, arith}
use Rattle.std.proofs.lemmas.Bool.{cases_lt}
use Rattle.snd_disk.specs.State.{Adds, Rises}
use Rattle.snd_output.specs.declared.stop.Stop.{Stop}
use Rattle.snd_output.specs.declared.stop.Stop.TheVariants.{Changed, Fault, Memory}
use Rattle.snd_output.specs.Ends.{CountsStop}
use Rattle.snd_tools.specs.Shelves.{CountsOneOf}

-- a count that rose has risen however much is added to it
pub rises_on : (a b c : ℕ) → a ≤ b → Rises a b → b ≤ c → Rises a c
rises_on a b c later (inl rose) on = inl (omega arith)
rises_on a b c later (inr last) on = elim (cases_lt a c) [ inl lt ↦ inl lt | inr le ↦ inr (omega arith) ]

-- it rises with that of a disk that was fresh when it was taken
pub rises_with : (old disk new : ℕ) → Rises 0 disk → Adds old disk new → Rises old new
rises_with old disk new (inl some) adds = elim adds.least [ inl le ↦ inl (omega arith) | inr all ↦ inr all ]
rises_with old disk new (inr most) adds = elim adds.least [ inl le ↦ inl (omega arith) | inr all ↦ inr all ]

module _ (old mid fresh disk new : ℕ) (same : mid ≡ old) (none : fresh ≡ 0) where
  rose_with : Rises fresh disk → (m : ℕ) → Adds m disk new → Rises m new
  rose_with (inl some) m adds = rises_with m disk new (inl (omega (arith, none))) adds
  rose_with (inr most) m adds = rises_with m disk new (inr most) adds

  rose_from : (m : ℕ) → m ≡ old → Rises m new → Rises old new
  rose_from m is (inl rose) = inl (omega (arith, is))
  rose_from m is (inr last) = inr last

  -- a disk came back, while another is out
  pub counts_given : {T : Type 0} (r : Result T Stop) (file file' : ℕ) → CountsOneOf file file' fresh disk r → Adds mid disk new → CountsOneOf file file' old new r
  counts_given (Ok x) file file' counts adds = (counts.0, omega (arith, same, none, counts.1, adds.later, adds.most))
  counts_given (Err Memory) file file' counts adds = (counts.0, omega (arith, same, none, counts.1, adds.later, adds.most))
  counts_given (Err Changed) file file' counts adds = (counts.0, omega (arith, same, none, counts.1, adds.later, adds.most))
  counts_given (Err Fault) file file' counts adds =
      (counts.0, omega (arith, same, adds.later), elim counts.2 [ inl rose ↦ inl rose | inr rose ↦ inr (rose_from mid same (rose_with rose mid adds)) ])

  -- .. and the other one
  pub counts_back : {T : Type 0} (r : Result T Stop) (mid' : ℕ) → CountsOneOf fresh disk mid mid' r → Adds mid' disk new → CountsStop old new r
  counts_back (Ok x) mid' counts adds = omega (arith, same, none, counts.0, counts.1, adds.later, adds.most)
  counts_back (Err Memory) mid' counts adds = omega (arith, same, none, counts.0, counts.1, adds.later, adds.most)
  counts_back (Err Changed) mid' counts adds = omega (arith, same, none, counts.0, counts.1, adds.later, adds.most)
  counts_back (Err Fault) mid' counts adds = (
    omega (arith, same, counts.1, adds.later),
    elim counts.2 [
      | inl rose ↦ rises_after_all (rose_with rose mid' adds)
      | inr rose ↦ rose_from mid same (rises_on mid mid' new counts.1 rose adds.later)
    ],
  )
    where
      rises_after_all : Rises mid' new → Rises old new
      rises_after_all (inl rose) = inl (omega (arith, same, counts.1))
      rises_after_all (inr last) = inr last
