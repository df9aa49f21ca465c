-- How a trail goes on.
use Rattle.std.proofs.Common.{◌≡◌, ℕ, ◌≤◌, List, [], ◌∷◌, reverse, ⊎_elim, sym, subst, arith}
use Rattle.snd_disk.specs.State.{KeepsImages}
use Rattle.snd_disk.specs.declared.disk.Disk.{Ghosts}
use Rattle.snd_patch.specs.Images.{LeavesEach}
use Rattle.snd_script.specs.Trail.{Going, Trail, TrailBack, TrailTo}

module _ {E : Type 0} (safe : E → E → List ℕ → Type 0) where
  -- a trail does not go back in time
  pub trail_later : (between : ℕ → ℕ → List ℕ → Type 0) (t0 t1 : ℕ) (e : E) (before : List E) → TrailTo safe between t0 t1 e before → t0 ≤ t1
  trail_later between t0 t1 e [] trail = trail.0
  trail_later between t0 t1 e (d ∷ before) (t, first, last, trail, each) = omega (arith, first, last)

  -- what was left up to a clock value stays, and so does a trail up to there
  pub trail_stays : (end : ℕ) (past since : ℕ → ℕ → List ℕ → Type 0) → ((s t : ℕ) (x : List ℕ) → t ≤ end → since s t x → past s t x)
      → (t0 t1 : ℕ) (e : E) (before : List E) → t1 ≤ end → TrailTo safe past t0 t1 e before → TrailTo safe since t0 t1 e before
  trail_stays end past since same t0 t1 e [] le trail = (trail.0, λ x left. trail.1 x (same t0 t1 x le left))
  trail_stays end past since same t0 t1 e (d ∷ before) le (t, first, last, trail, each) =
      (t, first, last, trail_stays end past since same t0 t d before (omega (arith, last, le)) trail, λ x left. each x (same t t1 x le left))

  -- one state alone
  pub trail_starts : (now : ℕ) (between : ℕ → ℕ → List ℕ → Type 0) (images : List ℕ → Type 0) (e : E) → ((s t : ℕ) (x : List ℕ) → now ≤ s → between s t x → images x)
      → ((x : List ℕ) → images x → safe e e x) → TrailTo safe between now now e []
  trail_starts now between images e only_now settled = (omega arith, λ x left. settled x (only_now now now x (omega arith) left))

  -- what keeps the images keeps the trail
  pub trail_kept : (a b : ℕ) (images images' : List ℕ → Type 0) (past since : ℕ → ℕ → List ℕ → Type 0) (t0 : ℕ) (e : E) (before : List E)
      → KeepsImages a b images images' past since → TrailTo safe past t0 a e before → TrailTo safe since t0 b e before
  trail_kept a b images images' past since t0 e before keeps trail =
      subst (λ (t : ℕ). TrailTo safe since t0 t e before) (sym keeps.same_time) (trail_stays a past since (λ s t x le left. keeps.no_more s t x left) t0 a e before (omega arith) trail)

  -- .. so that a file's trail is that of its disk, when it is taken from a shelf and when it is given back
  pub going_kept : (a b : ℕ) (images images' : List ℕ → Type 0) (past since : ℕ → ℕ → List ℕ → Type 0) (t0 : ℕ) (states : List E)
      → KeepsImages a b images images' past since → Going safe past images t0 a states → Going safe since images' t0 b states
  going_kept a b images images' past since t0 states keeps going = record {
    e = going.e;
    next = going.next;
    past = going.past;
    states_are = going.states_are;
    begun = going.begun;
    later = omega (arith, going.later, keeps.same_time);
    before = trail_stays a past since (λ s t x le left. keeps.no_more s t x left) t0 going.begun going.e going.past going.later going.before;
    each = λ t x left. going.each t x (keeps.no_more going.begun t x left);
    left = λ x left. going.left x (keeps.now.no_more x left);
  }

  pub trail_of_shelf : (a b : ℕ) (images images' : List ℕ → Type 0) (past since : ℕ → ℕ → List ℕ → Type 0) (t0 : ℕ) (states : List E)
      → KeepsImages a b images images' past since → Trail safe past t0 a states → Trail safe since t0 b states
  trail_of_shelf a b images images' past since t0 states keeps trail = record { back = back (reverse states) trail.back }
    where
      back : (l : List E) → TrailBack safe past t0 a l → TrailBack safe since t0 b l
      back [] none = absurd none
      back (e ∷ before) trail = trail_kept a b images images' past since t0 e before keeps trail

  pub trail_from : (between : ℕ → ℕ → List ℕ → Type 0) (t0 t0' t1 : ℕ) (states : List E) → t0 ≡ t0' → Trail safe between t0 t1 states → Trail safe between t0' t1 states
  trail_from between t0 t0' t1 states same trail = subst (λ (t : ℕ). Trail safe between t t1 states) same trail

  -- a trail that goes on is one
  pub going_trail : (between : ℕ → ℕ → List ℕ → Type 0) (images : List ℕ → Type 0) (t0 now : ℕ) (states : List E) → Going safe between images t0 now states → Trail safe between t0 now states
  going_trail between images t0 now states going = record {
    back = subst (λ (l : List E). TrailBack safe between t0 now l) (sym going.states_are)
        (going.begun, trail_later between t0 going.begun going.e going.past going.before, going.later, going.before, λ x left. going.each now x left);
  }

  module _ {D : Type 0} (d : Ghosts D) (old new : D) (t0 : ℕ) where
    -- a command adds a state
    pub trail_then : (e e' : E) (before : List E) → LeavesEach d old new (safe e e') → TrailTo safe (d.left_between old) t0 (d.state old).clock e before
        → TrailTo safe (d.left_between new) t0 (d.state new).clock e' (e ∷ before)
    trail_then e e' before leaves trail = (
      (d.state old).clock,
      trail_later (d.left_between old) t0 (d.state old).clock e before trail,
      leaves.time.later,
      trail_stays (d.state old).clock (d.left_between old) (d.left_between new) leaves.time.same t0 (d.state old).clock e before (omega arith) trail,
      λ x left. leaves.moments (d.state new).clock x left,
    )

    -- calls that leave what is safe from the last state but one to the last
    pub going_by : (states : List E) (going : Going safe (d.left_between old) (d.may_leave old) t0 (d.state old).clock states) → LeavesEach d old new (safe going.e going.next)
        → Going safe (d.left_between new) (d.may_leave new) t0 (d.state new).clock states
    going_by states going leaves = record {
      e = going.e;
      next = going.next;
      past = going.past;
      states_are = going.states_are;
      begun = going.begun;
      later = omega (arith, going.later, leaves.time.later);
      before = trail_stays (d.state old).clock (d.left_between old) (d.left_between new) leaves.time.same t0 going.begun going.e going.past going.later going.before;
      each = λ t x left. ⊎_elim (λ was. going.each t x was) (λ is. is) (leaves.earlier going.begun t x left);
      left = leaves.now;
    }

    -- calls that leave no more than there was
    pub going_on : (states : List E) → LeavesEach d old new (d.may_leave old) → Going safe (d.left_between old) (d.may_leave old) t0 (d.state old).clock states
        → Going safe (d.left_between new) (d.may_leave new) t0 (d.state new).clock states
    going_on states leaves going = record {
      e = going.e;
      next = going.next;
      past = going.past;
      states_are = going.states_are;
      begun = going.begun;
      later = omega (arith, going.later, leaves.time.later);
      before = trail_stays (d.state old).clock (d.left_between old) (d.left_between new) leaves.time.same t0 going.begun going.e going.past going.later going.before;
      each = λ t x left. ⊎_elim (λ was. going.each t x was) (λ is. going.left x is) (leaves.earlier going.begun t x left);
      left = λ x left. going.left x (leaves.now x left);
    }
