-- The trail of a file that stays open, from line to line.
use Rattle.std.specs.Prelude.{is_none}
use Rattle.std.proofs.Common.{◌≡◌, inl, inr, ℕ, ◌+◌, ◌<◌, ◌≤◌, List, ◌∷◌, ◌++◌, Bool, true, false, Option, None, Some, Result, Ok, Err, length, take, refl, sym, ◌∙◌, ap, subst, arith, append_assoc}
use Rattle.std.proofs.lemmas.List.{length-append, length-take-le}
use Rattle.snd_command.specs.Line.{command_of}
use Rattle.snd_command.specs.Said.{Said}
use Rattle.snd_command.specs.declared.refusal.ScriptRefusal.{ScriptRefusal}
use Rattle.snd_disk.specs.declared.disk.Disk.{Ghosts}
use Rattle.snd_disk.specs.declared.disk.Step.{Step}
use Rattle.snd_meters.specs.Gauge.{Gauge}
use Rattle.snd_edits.specs.Editing.{Editing}
use Rattle.snd_rules.specs.Desk.{Desk, Store, open_desk}
use Rattle.snd_rules.specs.Edit.{Edited, edit_line, line_edit}
use Rattle.snd_session.specs.Handled.{handle_known}
use Rattle.snd_script.specs.Lines.{Reading}
use Rattle.snd_rules.specs.Replies.{text_of}
use Rattle.snd_rules.specs.Script.{lines_within, steps}
use Rattle.snd_script.specs.Serving.{Brings, IsWhole, StopsLine, WholeAt}
use Rattle.snd_script.specs.Trail.{MovesSafely, TrailsOn, pinned_file, reached, state_behind}
use Rattle.snd_session.specs.declared.handle.Handle.{Handle}
use Rattle.snd_script.specs.declared.stop.Stop.{Stop}
use Rattle.snd_script.specs.declared.stop.Stop.TheVariants as stop
use Rattle.snd_script.proofs.PinnedMoves.{command_speaks, desk_behind, taps_behind}
use Rattle.snd_script.proofs.TrailRuns.{TrailSoFar, trail_breaks, trail_goes_on, trail_lacks, trail_passes, trail_stops}

-- ---- a step stops the run

pub not_whole : (broken : Option Step) (r : Stop) (T : Type 0) → IsWhole {T = T} (Err r) broken → r ≡ stop.File → broken ≡ None → ⊥
not_whole broken r T whole is none =
    let fails : is_none broken ≡ false = subst (λ (x : Stop). WholeAt x broken) is whole in
    let works : is_none broken ≡ true = ap is_none none in
    cc

module _ {D : Type 0} (d : Ghosts D) (only_now : (disk : D) (s t : ℕ) (x : List ℕ) → (d.state disk).clock ≤ s → d.left_between disk s t x → d.may_leave disk x)
    (t0 : ℕ) (begun : List Editing) (first : Editing) (all : List Edited) (e : Editing) (step : Edited) (left : List Edited) (n : ℕ) (handle new : Handle D d)
    (so_far : TrailSoFar d t0 begun first all e (step ∷ left) n handle)
    (t sent : List ℕ) (told told' : Option (List ℕ)) (counts : n ≡ length sent) (is : told ≡ Some (t ++ sent)) (some : 0 < length (text_of step.answer)) where
  abbrev Ends : Type 0
  Ends = (sent' : List ℕ) × (told' ≡ Some (t ++ sent')) × TrailsOn d t0 new (begun ++ reached (length sent') first all)

  as_before : told' ≡ told → TrailsOn d t0 new (begun ++ reached (n + 0) first all) → Ends
  as_before same trail = (sent, same ∙ is, subst (λ (m : ℕ). TrailsOn d t0 new (begun ++ reached m first all)) (let h : n + 0 ≡ length sent = omega (arith, counts) in h) trail)

  pub step_ends : (r : Stop) (T : Type 0) (desk : Desk) (stands : (List ℕ → Bool) → Desk → Type 0) → MovesSafely {T = T} d (Err r) e (state_behind e step) handle new
      → StopsLine r step desk told told' stands → (r ≡ stop.File → (handle_known new).broken ≡ None → ⊥) → Ends
  step_ends stop.Sink T desk stands moves stops faulted =
      let text = text_of step.answer in
      let front = stops.0 (t ++ sent) is in (
        sent ++ take front.0 text,
        front.2 ∙ ap (λ (l : List ℕ). Some l) (append_assoc t sent (take front.0 text)),
        subst (λ (m : ℕ). TrailsOn d t0 new (begun ++ reached m first all))
            (let h : n + front.0 ≡ length (sent ++ take front.0 text) = omega (arith, counts, length-append sent (take front.0 text), length-take-le front.0 text front.1) in h)
            (trail_stops d only_now t0 begun first all e n handle new front.0 step left so_far moves.leaves moves.rests moves.params front.1 some),
      )
  step_ends stop.File T desk stands moves stops faulted =
      as_before stops.0 (trail_breaks d only_now t0 begun first all e n handle new 0 step left so_far moves.leaves some (faulted refl))
  step_ends stop.Memory T desk stands moves stops faulted = as_before stops.0 (trail_lacks d only_now t0 begun first all e n handle new 0 step left so_far moves.leaves some moves.rests)
  step_ends stop.Ended T desk stands moves stops faulted = absurd stops
  step_ends stop.TooLong T desk stands moves stops faulted = absurd stops
  step_ends stop.Script T desk stands moves stops faulted = absurd stops

-- ---- lines

-- a line came
pub line_comes : (desk : Desk) (room room' : ℕ) (u u' kept : List ℕ) → Brings room u kept room' u' → steps desk (lines_within room u) ≡ edit_line desk kept ∷ steps (edit_line desk kept).desk (lines_within room' u')
line_comes desk room room' u u' kept comes =
    ap (steps desk) comes.lines ∙ ap (λ (c : Result (Option Said) ScriptRefusal). line_edit desk c ∷ steps (line_edit desk c).desk (lines_within room' u')) (sym comes.same)

module _ {D : Type 0} (d : Ghosts D) (only_now : (disk : D) (s t : ℕ) (x : List ℕ) → (d.state disk).clock ≤ s → d.left_between disk s t x → d.may_leave disk x)
    (t0 : ℕ) (begun : List Editing) (first : Editing) (all : List Edited) (store : Store) (name : List ℕ) (taps : List Gauge) (e : Editing) (command : Result (Option Said) ScriptRefusal) (lines : List (List ℕ)) (n : ℕ) (handle new : Handle D d) where
  abbrev step : Edited
  step = line_edit (open_desk store (pinned_file name taps e)) command

  abbrev size : ℕ
  size = length (text_of step.answer)

  abbrev then : List Edited
  then = steps step.desk lines

  module _ (so_far : TrailSoFar d t0 begun first all e (step ∷ then) n handle) where
    -- it says nothing
    silent_on : command ≡ Ok None → new ≡ handle → TrailSoFar d t0 begun first all (state_behind e step) then (n + size) new
    silent_on none same =
        let told : step ≡ line_edit (open_desk store (pinned_file name taps e)) (Ok None) = ap (line_edit (open_desk store (pinned_file name taps e))) none in
        let no_text : size ≡ 0 = ap (λ (x : Edited). length (text_of x.answer)) told in
        let stays : state_behind e step ≡ e = ap (state_behind e) told in
        let length_is : n ≡ n + size = omega (arith, no_text) in
        subst (λ (g : Editing). TrailSoFar d t0 begun first all g then (n + size) new) (sym stays)
        (subst (λ (h : Handle D d). TrailSoFar d t0 begun first all e then (n + size) h) (sym same)
        (subst (λ (m : ℕ). TrailSoFar d t0 begun first all e then m handle) length_is (trail_passes d only_now t0 begun first all e n handle step then no_text so_far)))

    -- it was served, and the run goes on
    pub line_goes_on : MovesSafely {T = Unit {0}} d (Ok tt) e (state_behind e step) handle new → (command ≡ Ok None → new ≡ handle) → TrailSoFar d t0 begun first all (state_behind e step) then (n + size) new
    line_goes_on moves idle = elim (command_speaks store name taps e command) [
      | inl none ↦ silent_on none (idle none)
      | inr some ↦ trail_goes_on d only_now t0 begun first all e n handle new step then so_far some moves.leaves moves.rests
    ]

-- with these taps, by another name
pub trail_with : {D : Type 0} (d : Ghosts D) (t0 : ℕ) (begun : List Editing) (first : Editing) (all : List Edited) (store : Store) (name : List ℕ) (taps taps' : List Gauge) (e : Editing) (lines : List (List ℕ)) (n : ℕ) (handle : Handle D d)
    → taps' ≡ taps → TrailSoFar d t0 begun first all e (steps (open_desk store (pinned_file name taps e)) lines) n handle
    → TrailSoFar d t0 begun first all e (steps (open_desk store (pinned_file name taps' e)) lines) n handle
trail_with d t0 begun first all store name taps taps' e lines n handle same so_far =
    subst (λ (t : List Gauge). TrailSoFar d t0 begun first all e (steps (open_desk store (pinned_file name t e)) lines) n handle) (sym same) so_far

-- a line came, behind a trail so far
module _ {D : Type 0} (d : Ghosts D) (only_now : (disk : D) (s t : ℕ) (x : List ℕ) → (d.state disk).clock ≤ s → d.left_between disk s t x → d.may_leave disk x)
    (t0 : ℕ) (begun : List Editing) (first : Editing) (all : List Edited) (store : Store) (name : List ℕ) (taps : List Gauge) (e : Editing) (kept : List ℕ) (before came : Reading) (s s' : List ℕ) (n : ℕ) (handle new : Handle D d)
    (so_far : TrailSoFar d t0 begun first all e (steps (open_desk store (pinned_file name taps e)) (lines_within before.room (before.rest ++ s))) n handle)
    (comes : Brings before.room (before.rest ++ s) kept came.room (came.rest ++ s')) where
  abbrev served : Edited
  served = edit_line (open_desk store (pinned_file name taps e)) kept

  abbrev lines_then : List (List ℕ)
  lines_then = lines_within came.room (came.rest ++ s')

  at_line : TrailSoFar d t0 begun first all e (served ∷ steps served.desk lines_then) n handle
  at_line = subst (λ (l : List Edited). TrailSoFar d t0 begun first all e l n handle)
      (line_comes (open_desk store (pinned_file name taps e)) before.room came.room (before.rest ++ s) (came.rest ++ s') kept comes) so_far

  pub trail_on : (taps' : List Gauge) → taps_behind taps served ≡ taps' → (after : Reading) (n' : ℕ) → after ≡ came → MovesSafely {T = Unit {0}} d (Ok tt) e (state_behind e served) handle new → (command_of kept ≡ Ok None → new ≡ handle)
      → n' ≡ n + length (text_of served.answer)
      → TrailSoFar d t0 begun first all (state_behind e served) (steps (open_desk store (pinned_file name taps' (state_behind e served))) (lines_within after.room (after.rest ++ s'))) n' new
  trail_on taps' are after n' same moves idle counts =
      subst (λ (m : ℕ). TrailSoFar d t0 begun first all (state_behind e served) (steps (open_desk store (pinned_file name taps' (state_behind e served))) (lines_within after.room (after.rest ++ s'))) m new) (sym counts)
      (subst (λ (r : Reading). TrailSoFar d t0 begun first all (state_behind e served) (steps (open_desk store (pinned_file name taps' (state_behind e served))) (lines_within r.room (r.rest ++ s'))) (n + length (text_of served.answer)) new) (sym same)
      (subst (λ (desk : Desk). TrailSoFar d t0 begun first all (state_behind e served) (steps desk lines_then) (n + length (text_of served.answer)) new) (desk_behind store name taps e (command_of kept) ∙ ap (λ t. open_desk store (pinned_file name t (state_behind e served))) are)
      (line_goes_on d only_now t0 begun first all store name taps e (command_of kept) lines_then n handle new at_line moves idle)))

  pub trail_ends : (t sent : List ℕ) (told told' : Option (List ℕ)) → n ≡ length sent → told ≡ Some (t ++ sent) → (r : Stop) (T : Type 0) (desk : Desk) (stands : (List ℕ → Bool) → Desk → Type 0)
      → MovesSafely {T = T} d (Err r) e (state_behind e served) handle new → StopsLine r served desk told told' stands → IsWhole {T = T} (Err r) (handle_known new).broken → (command_of kept ≡ Ok None → ⊥)
      → (sent' : List ℕ) × (told' ≡ Some (t ++ sent')) × TrailsOn d t0 new (begun ++ reached (length sent') first all)
  trail_ends t sent told told' counts is r T desk stands moves stops whole spoken = elim (command_speaks store name taps e (command_of kept)) [
    | inl none ↦ absurd (spoken none)
    | inr some ↦ step_ends d only_now t0 begun first all e served (steps served.desk lines_then) n handle new at_line t sent told told' counts is some r T desk stands moves stops
        (not_whole (handle_known new).broken r T whole)
  ]
