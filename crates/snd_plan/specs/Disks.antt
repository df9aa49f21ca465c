-- A disk that plans: what is planned, what was read of the file, and what it shows of it. As a disk it tells nothing of
-- contents and of crashes.
use Rattle.std.specs.Prelude.{◌≡◌, ◌⊎◌, ◌<◌, ◌≤◌, ◌^◌, ◌-◌, ℕ, List, [], ◌∷◌, ◌++◌, length, Option, Some, None, min, Bool, nat_eq, ◌||◌}
use Rattle.std.proofs.Common.{inl}
use Rattle.snd_disk.specs.Device.{IsUnchanged, MixesAllOn}
use Rattle.snd_disk.specs.Runs.{HasAt}
use Rattle.snd_disk.specs.State.{State}
use Rattle.snd_plan.specs.Operations.{Operation, all_carried_out}
use Rattle.snd_plan.specs.Plans.{operations}
use Rattle.snd_plan.specs.Windows.{HasParts, are_held, parts}
use Rattle.snd_plan.specs.declared.disk.PlanDisk.{PlanDisk}
use Rattle.snd_plan.specs.declared.disk.Wanted.{Wanted}

abbrev pub plan_state : PlanDisk → State
plan_state d = record {
  size = d.size;
  contents = None;
  name = None;
  faults = d.faults;
  written = d.written;
  asked = d.asked;
  clock = 0;
}

abbrev pub plan_left : PlanDisk → List ℕ → Type 0
plan_left d x = ⊥

abbrev pub plan_between : PlanDisk → ℕ → ℕ → List ℕ → Type 0
plan_between d s t x = ⊥

-- all that a crash may leave then is a mix of what it might have left before and of what was meant; or so, or as it was
abbrev pub IsMixed : (List ℕ → List ℕ) → PlanDisk → PlanDisk → Type 0
IsMixed meant old new = MixesAllOn plan_state plan_left meant old new

abbrev pub IsMixedOrSame : (List ℕ → List ℕ) → PlanDisk → PlanDisk → Type 0
IsMixedOrSame meant old new = IsMixed meant old new ⊎ IsUnchanged plan_state plan_left plan_between old new

-- the operations that are planned, in their order, and the tape that has the bytes of their writes
abbrev pub planned : PlanDisk → List Operation
planned d = operations d.plan

abbrev pub tape_of : PlanDisk → List ℕ
tape_of d = d.plan.tape.items

-- the length of the file as it stands, before any of them is carried out
abbrev pub held_length : PlanDisk → ℕ
held_length d = d.held

-- the parts of the file that were given
abbrev pub given : PlanDisk → List (ℕ × List ℕ)
given d = parts d.windows

-- what a read needed last that failed
abbrev pub wanted_of : PlanDisk → Option Wanted
wanted_of d = d.wanted

-- These are the bytes of the file, of which all parts were read.
pub record IsFile (d : PlanDisk) (b : List ℕ) : Type 0 where
  pub size : length b ≡ held_length d
  pub has : HasParts b (given d)

-- what the disk shows of it: what it holds when all that is planned is carried out
abbrev pub shown : PlanDisk → List ℕ → List ℕ
shown d b = all_carried_out (planned d) b

-- bytes are those that it shows of the file from a place on, whatever file has the parts that were given
abbrev pub Shows : PlanDisk → ℕ → List ℕ → Type 0
Shows d at xs = (b : List ℕ) → IsFile d b → HasAt (shown d b) at xs

-- nothing changes of what is planned
pub record KeepsPlan (old new : PlanDisk) : Type 0 where
  pub plan : planned new ≡ planned old
  pub file : held_length new ≡ held_length old

-- nothing changes of what was read, and is wanted
pub record KeepsRead (old new : PlanDisk) : Type 0 where
  pub read : given new ≡ given old
  pub want : wanted_of new ≡ wanted_of old

-- An operation is planned behind the others.
pub record Notes (old new : PlanDisk) (o : Operation) : Type 0 where
  pub plan : planned new ≡ planned old ++ o ∷ []
  pub file : held_length new ≡ held_length old
  pub read : KeepsRead old new

-- Nothing is planned.
pub record NotesNothing (old new : PlanDisk) : Type 0 where
  pub plan : KeepsPlan old new
  pub read : KeepsRead old new

-- how many bytes of the file a read of n bytes from a place on needs, and whether it has them
abbrev pub needs : PlanDisk → ℕ → ℕ → ℕ
needs d at n = min (min n ((plan_state d).size - at)) (held_length d - at)

abbrev pub has_all : PlanDisk → ℕ → ℕ → Bool
has_all d at n = nat_eq (needs d at n) 0 || are_held (given d) at (needs d at n)

-- the laws of a disk
pub plan_told : (d : PlanDisk) (b : List ℕ) → (plan_state d).contents ≡ Some b → d.size ≡ length b
plan_told d b told = absurd (cc told)

pub plan_is_left : (d : PlanDisk) (b : List ℕ) → (plan_state d).contents ≡ Some b → plan_left d b
plan_is_left d b told = absurd (cc told)

pub plan_counts_now : (d : PlanDisk) (s t : ℕ) (x : List ℕ) → s ≤ 0 → 0 ≤ t → plan_left d x → plan_between d s t x
plan_counts_now d s t x after before left = left

pub plan_only_now : (d : PlanDisk) (s t : ℕ) (x : List ℕ) → 0 ≤ s → plan_between d s t x → plan_left d x
plan_only_now d s t x now left = left

pub plan_fits : (d : PlanDisk) → d.size < 2 ^ 63
plan_fits d = d.fits

pub plan_none_to_come : (d : PlanDisk) (s t : ℕ) (x : List ℕ) → 0 ≤ t → plan_between d s t x → plan_between d s 0 x
plan_none_to_come d s t x now left = left

pub plan_splits : (d : PlanDisk) (s t u : ℕ) (x : List ℕ) → plan_between d s u x → plan_between d s t x ⊎ plan_between d t u x
plan_splits d s t u x left = inl left
