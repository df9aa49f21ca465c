-- What a crash leaves at each moment of a call, and of two calls.
use Rattle.std.proofs.Common.{◌⊎◌, ℕ, List, inl, inr, ⊎_elim}
use Rattle.snd_disk.specs.Runs.{IsMade, Since}
use Rattle.snd_disk.specs.declared.disk.Disk.{Ghosts}
use Rattle.snd_disk.proofs.Public.{goes_on_then}
use Rattle.snd_patch.specs.Images.{LeavesEach}

module _ {D : Type 0} (d : Ghosts D) where
  -- a run of calls leaves what is made of the images at the start and the lists held since
  pub leaves_made : (a b : D) (held : List (List ℕ)) → Since d.state d.may_leave d.left_between a b held → LeavesEach d a b (IsMade (d.may_leave a) held)
  leaves_made a b held run = record {
    time = record { later = run.later; same = run.same; kept = run.kept };
    now = run.now;
    moments = run.between;
    earlier = run.earlier;
  }

  pub leaves_weaker : (a b : D) (P Q : List ℕ → Type 0) → ((x : List ℕ) → P x → Q x) → LeavesEach d a b P → LeavesEach d a b Q
  leaves_weaker a b P Q weaker run = record {
    time = run.time;
    now = λ x left. weaker x (run.now x left);
    moments = λ t x left. weaker x (run.moments t x left);
    earlier = λ s t x left. ⊎_elim (λ past. inl past) (λ new. inr (weaker x new)) (run.earlier s t x left);
  }

  -- a run of calls and what it may have left, where that has P
  pub leaves_by : (a b : D) (held : List (List ℕ)) (P : List ℕ → Type 0) → ((x : List ℕ) → IsMade (d.may_leave a) held x → P x) → Since d.state d.may_leave d.left_between a b held → LeavesEach d a b P
  leaves_by a b held P is run = leaves_weaker a b (IsMade (d.may_leave a) held) P is (leaves_made a b held run)

  -- two calls, one after the other
  pub leaves_then : (a b c : D) (P : List ℕ → Type 0) → LeavesEach d a b P → LeavesEach d b c P → LeavesEach d a c P
  leaves_then a b c P one two = record {
    time = goes_on_then (d.state a).clock (d.state b).clock (d.state c).clock (d.left_between a) (d.left_between b) (d.left_between c) one.time two.time;
    now = two.now;
    moments = λ t x left. ⊎_elim (λ past. one.moments t x past) (λ new. new) (two.earlier (d.state a).clock t x left);
    earlier = λ s t x left. ⊎_elim (λ past. one.earlier s t x past) (λ new. inr new) (two.earlier s t x left);
  }

  -- .. where the second leaves an image of its start, or what has P
  pub leaves_on : (a b c : D) (P Q : List ℕ → Type 0) → ((x : List ℕ) → Q x → P x) → LeavesEach d a b P → LeavesEach d b c (λ x. d.may_leave b x ⊎ Q x) → LeavesEach d a c P
  leaves_on a b c P Q weaker one two =
      leaves_then a b c P one (leaves_weaker b c (λ x. d.may_leave b x ⊎ Q x) P (λ x is. ⊎_elim (λ was. one.now x was) (λ new. weaker x new) is) two)
