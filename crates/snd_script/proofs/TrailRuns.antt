-- The trail of a run over an open file, from command to command.
use Rattle.std.proofs.Common.{◌≡◌, inl, inr, ℕ, ◌+◌, ◌-◌, ◌<◌, ◌≤◌, ◌==◌, List, [], ◌∷◌, ◌++◌, true, false, Option, None, Some, length, nat_le, cond, refl, reverse, sym, ◌∙◌, ap, subst, arith}
use Rattle.std.proofs.lemmas.Bool.{cases_lt, le-leb}
use Rattle.std.proofs.lemmas.Bool.Decides.{nat_tests}
use Rattle.std.proofs.lemmas.List.{reverse-append, reverse-reverse}
use Rattle.snd_disk.specs.declared.disk.Disk.{Ghosts}
use Rattle.snd_disk.specs.declared.disk.Step.{Step}
use Rattle.snd_layout.specs.Shape.{Shape}
use Rattle.snd_edits.specs.Editing.{Editing}
use Rattle.snd_edits.specs.Safe.{IsSafe}
use Rattle.snd_file.proofs.Public.{left_at_rest}
use Rattle.snd_edits.proofs.Public.{from_after, wider}
use Rattle.snd_patch.proofs.Public.{leaves_weaker}
use Rattle.snd_patch.specs.Images.{LeavesEach}
use Rattle.snd_rules.specs.Edit.{Edited}
use Rattle.snd_session.specs.Handled.{HandleAtRest, handle_disk, handle_known, handle_params}
use Rattle.snd_rules.specs.Replies.{text_of}
use Rattle.snd_script.specs.Trail.{Going, Trail, TrailTo, TrailsOn, reached, state_behind}
use Rattle.snd_session.specs.declared.handle.Handle.{Handle}
use Rattle.snd_session.specs.declared.handle.Handle.TheVariants.{R, W, B, U}
use Rattle.snd_script.proofs.Trails.{going_by, going_trail, trail_starts, trail_stays, trail_then}

-- ---- the states that bytes of the answers show

abbrev size_of : Edited → ℕ
size_of step = length (text_of step.answer)

-- a step that says nothing shows none
pub reached_silent : (n : ℕ) (e : Editing) (step : Edited) (left : List Edited) → size_of step ≡ 0 → reached n e (step ∷ left) ≡ reached n e left
reached_silent n e step left silent =
    let test : (size_of step == 0) ≡ true = grind (arith, nat_tests) in
    ap (λ b. cond b (reached n e left) (cond (nat_le (size_of step) n) (e ∷ reached (n - size_of step) (state_behind e step) left) (e ∷ state_behind e step ∷ []))) test

speaks : (n : ℕ) (e : Editing) (step : Edited) (left : List Edited) → 0 < size_of step
    → reached n e (step ∷ left) ≡ cond (nat_le (size_of step) n) (e ∷ reached (n - size_of step) (state_behind e step) left) (e ∷ state_behind e step ∷ [])
speaks n e step left some =
    let test : (size_of step == 0) ≡ false = grind (arith, nat_tests) in
    ap (λ b. cond b (reached n e left) (cond (nat_le (size_of step) n) (e ∷ reached (n - size_of step) (state_behind e step) left) (e ∷ state_behind e step ∷ []))) test

-- all of its answer, and more
pub reached_more : (n : ℕ) (e : Editing) (step : Edited) (left : List Edited) → 0 < size_of step → reached (size_of step + n) e (step ∷ left) ≡ e ∷ reached n (state_behind e step) left
reached_more n e step left some =
    let test : nat_le (size_of step) (size_of step + n) ≡ true = le-leb (size_of step) (size_of step + n) (omega arith) in
    let rest : size_of step + n - size_of step ≡ n = omega arith in
    speaks (size_of step + n) e step left some
    ∙ ap (λ b. cond b (e ∷ reached (size_of step + n - size_of step) (state_behind e step) left) (e ∷ state_behind e step ∷ [])) test
    ∙ ap (λ m. e ∷ reached m (state_behind e step) left) rest

-- a part of it, or nothing
pub reached_part : (n : ℕ) (e : Editing) (step : Edited) (left : List Edited) → n < size_of step → reached n e (step ∷ left) ≡ e ∷ state_behind e step ∷ []
reached_part n e step left lt =
    let test : nat_le (size_of step) n ≡ false = grind (arith, nat_tests) in
    speaks n e step left (omega (arith, lt))
    ∙ ap (λ b. cond b (e ∷ reached (n - size_of step) (state_behind e step) left) (e ∷ state_behind e step ∷ [])) test

-- nothing more of the answers
pub reached_none : (e : Editing) (left : List Edited) → (next : Editing) × (reached 0 e left ≡ e ∷ next ∷ [])
reached_none e [] = (e, refl)
reached_none e (step ∷ left) = elim (cases_lt 0 (size_of step)) [
  | inl some ↦ (state_behind e step, reached_part 0 e step left some)
  | inr none ↦ let rest = reached_none e left in (rest.0, reached_silent 0 e step left (omega (arith, none)) ∙ rest.1)
]

append_more : {A : Type 0} (x : A) (a b : List A) → (a ++ x ∷ []) ++ b ≡ a ++ (x ∷ b)
append_more x [] b = refl
append_more x (y ∷ a) b = ap (λ l. y ∷ l) (append_more x a b)

pub two_back : (past : List Editing) (e next : Editing) → reverse (reverse past ++ (e ∷ next ∷ [])) ≡ next ∷ e ∷ past
two_back past e next = reverse-append (reverse past) (e ∷ next ∷ []) ∙ ap (λ l. next ∷ e ∷ l) (reverse-reverse past)

-- ---- a handle at rest

pub handle_left : {D : Type 0} (d : Ghosts D) (handle : Handle D d) (e : Editing) → HandleAtRest d handle e → (e' : Editing) (x : List ℕ) → d.may_leave (handle_disk handle) x → IsSafe e e' x
handle_left d (R file) e rest = left_at_rest d rest.0 file e rest.1
handle_left d (W file) e rest = left_at_rest d rest.0 file e rest.1
handle_left d (B file) e rest = left_at_rest d rest.0 file e rest.1
handle_left d (U file) e rest = left_at_rest d rest.0 file e rest.1

-- its parameters are those of the state
params_at : {D : Type 0} (d : Ghosts D) (handle : Handle D d) (e : Editing) → HandleAtRest d handle e → handle_params handle ≡ e.shape.params
params_at d (R file) e rest = ap (λ (s : Shape). s.params) rest.1.stands.shape
params_at d (W file) e rest = ap (λ (s : Shape). s.params) rest.1.stands.shape
params_at d (B file) e rest = ap (λ (s : Shape). s.params) rest.1.stands.shape
params_at d (U file) e rest = ap (λ (s : Shape). s.params) rest.1.stands.shape

-- ---- a run so far, which began behind some states, with n bytes of answers: these steps are left, from the state e on

pub record TrailSoFar {D : Type 0} (d : Ghosts D) (t0 : ℕ) (begun : List Editing) (first : Editing) (all : List Edited) (e : Editing) (left : List Edited) (n : ℕ) (handle : Handle D d) : Type 0 where
  pub past : List Editing
  pub whole : (m : ℕ) → reverse past ++ reached m e left ≡ begun ++ reached (n + m) first all
  pub rests : HandleAtRest d handle e
  pub trail : TrailTo IsSafe (d.left_between (handle_disk handle)) t0 (d.state (handle_disk handle)).clock e past

module _ {D : Type 0} (d : Ghosts D) (only_now : (disk : D) (s t : ℕ) (x : List ℕ) → (d.state disk).clock ≤ s → d.left_between disk s t x → d.may_leave disk x) where
  pub trail_begins : (t0 : ℕ) (past : List Editing) (e : Editing) (all : List Edited) (handle : Handle D d) → HandleAtRest d handle e
      → TrailTo IsSafe (d.left_between (handle_disk handle)) t0 (d.state (handle_disk handle)).clock e past → TrailSoFar d t0 (reverse past) e all e all 0 handle
  trail_begins t0 past e all handle rest trail = record {
    past = past;
    whole = λ m. ap (λ k. reverse past ++ reached k e all) (let h : m ≡ 0 + m = omega arith in h);
    rests = rest;
    trail = trail;
  }

  -- nothing was done yet
  pub trail_alone : (e : Editing) (handle : Handle D d) → HandleAtRest d handle e → TrailTo IsSafe (d.left_between (handle_disk handle)) (d.state (handle_disk handle)).clock (d.state (handle_disk handle)).clock e []
  trail_alone e handle rest =
      trail_starts IsSafe (d.state (handle_disk handle)).clock (d.left_between (handle_disk handle)) (d.may_leave (handle_disk handle)) e (only_now (handle_disk handle)) (handle_left d handle e rest e)

  module _ (t0 : ℕ) (begun : List Editing) (first : Editing) (all : List Edited) (e : Editing) (n : ℕ) (handle : Handle D d) where
    abbrev disk : D
    disk = handle_disk handle

    -- a line that says nothing
    pub trail_passes : (step : Edited) (left : List Edited) → size_of step ≡ 0 → TrailSoFar d t0 begun first all e (step ∷ left) n handle → TrailSoFar d t0 begun first all e left n handle
    trail_passes step left silent so_far = record {
      past = so_far.past;
      whole = λ m. ap (λ l. reverse so_far.past ++ l) (sym (reached_silent m e step left silent)) ∙ so_far.whole m;
      rests = so_far.rests;
      trail = so_far.trail;
    }

    -- a command was carried out, and its answer has come
    pub trail_goes_on : (new : Handle D d) (step : Edited) (left : List Edited) → TrailSoFar d t0 begun first all e (step ∷ left) n handle → 0 < size_of step
        → LeavesEach d disk (handle_disk new) (IsSafe e (state_behind e step)) → HandleAtRest d new (state_behind e step)
        → TrailSoFar d t0 begun first all (state_behind e step) left (n + size_of step) new
    trail_goes_on new step left so_far some leaves rests = record {
      past = e ∷ so_far.past;
      whole = λ m.
          ap (λ l. l ++ reached m (state_behind e step) left) (reverse-append (e ∷ []) so_far.past)
          ∙ append_more e (reverse so_far.past) (reached m (state_behind e step) left)
          ∙ ap (λ l. reverse so_far.past ++ l) (sym (reached_more m e step left some)) ∙ so_far.whole (size_of step + m)
          ∙ ap (λ k. begun ++ reached k first all) (let h : n + (size_of step + m) ≡ n + size_of step + m = omega arith in h);
      rests = rests;
      trail = trail_then IsSafe d disk (handle_disk new) t0 e (state_behind e step) so_far.past leaves so_far.trail;
    }

    -- the run stops between two commands
    module _ (left : List Edited) (so_far : TrailSoFar d t0 begun first all e left n handle) where
      abbrev next : Editing
      next = (reached_none e left).0

      resting : Going IsSafe (d.left_between disk) (d.may_leave disk) t0 (d.state disk).clock (begun ++ reached n first all)
      resting = record {
        e = e;
        next = next;
        past = so_far.past;
        states_are = ap reverse (sym (ap (λ l. reverse so_far.past ++ l) (sym (reached_none e left).1) ∙ so_far.whole 0
            ∙ ap (λ k. begun ++ reached k first all) (let h : n + 0 ≡ n = omega arith in h))) ∙ two_back so_far.past e next;
        begun = (d.state disk).clock;
        later = omega arith;
        before = so_far.trail;
        each = λ t x left. handle_left d handle e so_far.rests next x (only_now disk (d.state disk).clock t x (omega arith) left);
        left = λ x left. handle_left d handle e so_far.rests next x left;
      }

      pub trail_rests : TrailsOn d t0 handle (begun ++ reached n first all)
      unfolding resting
      trail_rests = record { going = resting; rests = λ whole. (e, so_far.rests, λ x safe. wider e next x safe) }

    -- .. or in a command, with a part of its answer or nothing
    module _ (new : Handle D d) (k : ℕ) (step : Edited) (left : List Edited) (so_far : TrailSoFar d t0 begun first all e (step ∷ left) n handle)
        (leaves : LeavesEach d disk (handle_disk new) (IsSafe e (state_behind e step))) (part : k < size_of step) where
      abbrev after : Editing
      after = state_behind e step

      broken_off : Going IsSafe (d.left_between (handle_disk new)) (d.may_leave (handle_disk new)) t0 (d.state (handle_disk new)).clock (begun ++ reached (n + k) first all)
      broken_off = record {
        e = e;
        next = after;
        past = so_far.past;
        states_are = ap reverse (sym (ap (λ l. reverse so_far.past ++ l) (sym (reached_part k e step left part)) ∙ so_far.whole k)) ∙ two_back so_far.past e after;
        begun = (d.state disk).clock;
        later = leaves.time.later;
        before = trail_stays IsSafe (d.state disk).clock (d.left_between disk) (d.left_between (handle_disk new)) leaves.time.same t0 (d.state disk).clock e so_far.past (omega arith) so_far.trail;
        each = leaves.moments;
        left = leaves.now;
      }

      -- as its disk failed
      pub trail_breaks : ((handle_known new).broken ≡ None → ⊥) → TrailsOn d t0 new (begun ++ reached (n + k) first all)
      trail_breaks broken = record { going = broken_off; rests = λ whole. absurd (broken whole) }

      -- as there was no memory, or as the sink failed
      pub trail_lacks : HandleAtRest d new e → TrailsOn d t0 new (begun ++ reached (n + k) first all)
      unfolding broken_off
      trail_lacks rests = record { going = broken_off; rests = λ whole. (e, rests, λ x safe. wider e after x safe) }

      pub trail_stops_within : HandleAtRest d new after → handle_params new ≡ handle_params handle → TrailsOn d t0 new (begun ++ reached (n + k) first all)
      unfolding broken_off
      trail_stops_within rests params = record {
        going = broken_off;
        rests = λ whole. (after, rests, λ x safe. from_after e after x (sym (params_at d new after rests) ∙ params ∙ params_at d handle e so_far.rests) safe);
      }

  -- .. the sink maybe behind all of the answer
  pub trail_stops : (t0 : ℕ) (begun : List Editing) (first : Editing) (all : List Edited) (e : Editing) (n : ℕ) (handle new : Handle D d) (k : ℕ) (step : Edited) (left : List Edited) → TrailSoFar d t0 begun first all e (step ∷ left) n handle
      → LeavesEach d (handle_disk handle) (handle_disk new) (IsSafe e (state_behind e step)) → HandleAtRest d new (state_behind e step) → handle_params new ≡ handle_params handle → k ≤ size_of step → 0 < size_of step
      → TrailsOn d t0 new (begun ++ reached (n + k) first all)
  trail_stops t0 begun first all e n handle new k step left so_far leaves rests params within some = elim (cases_lt k (size_of step)) [
    | inl part ↦ trail_stops_within t0 begun first all e n handle new k step left so_far leaves part rests params
    | inr all_of_it ↦
        let same : k ≡ size_of step = omega (arith, within, all_of_it) in
        subst (λ (m : ℕ). TrailsOn d t0 new (begun ++ reached (n + m) first all)) (sym same)
        (trail_rests t0 begun first all (state_behind e step) (n + size_of step) new left (trail_goes_on t0 begun first all e n handle new step left so_far some leaves rests))
  ]

  -- the handle is closed, in the end
  pub trail_closed : (t0 : ℕ) (handle : Handle D d) (last : D) (states : List Editing) → TrailsOn d t0 handle states
      → ((e : Editing) → HandleAtRest d handle e → LeavesEach d (handle_disk handle) last (IsSafe e e)) → (((handle_known handle).broken ≡ None → ⊥) → last ≡ handle_disk handle)
      → Trail IsSafe (d.left_between last) t0 (d.state last).clock states
  trail_closed t0 handle last states on closes same = closed (handle_known handle).broken refl
    where
      closed : (broken : Option Step) → (handle_known handle).broken ≡ broken → Trail IsSafe (d.left_between last) t0 (d.state last).clock states
      closed None whole =
          let rest = on.rests whole in
          going_trail IsSafe (d.left_between last) (d.may_leave last) t0 (d.state last).clock states
          (going_by IsSafe d (handle_disk handle) last t0 states on.going (leaves_weaker d (handle_disk handle) last (IsSafe rest.0 rest.0) (IsSafe on.going.e on.going.next) rest.2 (closes rest.0 rest.1)))
      closed (Some step) broken =
          let unchanged : last ≡ handle_disk handle = same (λ whole. let no : ◌≡◌ {A = Option Step} None (Some step) = sym whole ∙ broken in cc) in
          subst (λ (disk : D). Trail IsSafe (d.left_between disk) t0 (d.state disk).clock states) (sym unchanged)
          (going_trail IsSafe (d.left_between (handle_disk handle)) (d.may_leave (handle_disk handle)) t0 (d.state (handle_disk handle)).clock states on.going)
