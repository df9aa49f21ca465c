-- The trail of a file that stays open, from its opening on.
use Rattle.std.specs.Prelude.{if◌then◌else◌}
use Rattle.std.proofs.Common.{◌≡◌, inr, ℕ, ◌+◌, ◌<◌, ◌≤◌, List, [], ◌++◌, Bool, true, false, cond, Option, None, Some, Result, Ok, Err, length, reverse, refl, sym, ◌∙◌, ap, subst, arith, append_assoc}
use Rattle.std.proofs.lemmas.List.{length-append}
use Rattle.snd_command.specs.Said.{Said}
use Rattle.snd_disk.specs.declared.disk.Disk.{Ghosts}
use Rattle.snd_meters.specs.Gauge.{Gauge}
use Rattle.snd_edits.specs.Editing.{Editing}
use Rattle.snd_rules.specs.Desk.{Mode, OpenFile, Store, open_desk, updating}
use Rattle.snd_rules.specs.Edit.{Edited, edit_file, edit_unless}
use Rattle.snd_session.specs.Handled.{HandleAtRest, handle_disk, handle_known, mode_of}
use Rattle.snd_script.specs.Lines.{Reading}
use Rattle.snd_rules.specs.Pinned.{pin_edit, pinned_lines, pinned_steps}
use Rattle.snd_script.specs.PinnedRun.{opened_pinned}
use Rattle.snd_rules.specs.Replies.{Answer, file_line, is_refusal, text_of}
use Rattle.snd_rules.specs.Rules.{auto_rule, grounds_of, rule_of}
use Rattle.snd_rules.specs.Script.{ending, lines_within, steps}
use Rattle.snd_script.specs.Serving.{IsAnswered}
use Rattle.snd_script.specs.Trail.{MovesSafely, StepMoves, TrailsOn, pinned_file, reached, state_behind}
use Rattle.snd_session.specs.declared.handle.Handle.{Handle}
use Rattle.snd_lines.specs.declared.refusal.Refusal.{Refusal}
use Rattle.snd_script.specs.declared.stop.Stop.{Stop}
use Rattle.snd_script.specs.declared.stop.Stop.TheVariants as stop
use Rattle.snd_script.proofs.PinnedMoves.{leaves_still, ok_speaks, unless_speaks}
use Rattle.snd_script.proofs.TrailRuns.{TrailSoFar, trail_alone, trail_begins, trail_goes_on}

-- an answer that fails does so at the sink
pub at_sink : (r : Stop) (answer : Answer) (a b : Bool) (told told' : Option (List ℕ)) → IsAnswered {T = Unit {0}} (Err r) answer a b told told' → r ≡ stop.Sink
at_sink stop.Sink answer a b told told' said = refl
at_sink stop.Ended answer a b told told' said = absurd said
at_sink stop.TooLong answer a b told told' said = absurd said
at_sink stop.Script answer a b told told' said = absurd said
at_sink stop.File answer a b told told' said = absurd said
at_sink stop.Memory answer a b told told' said = absurd said

-- ---- `auto on`

module _ (store : Store) (name : List ℕ) (taps : List Gauge) (e : Editing) where
  abbrev file : OpenFile
  file = pinned_file name taps e

  abbrev pin : Edited
  pin = pin_edit store file

  abbrev opening : Edited
  opening = opened_pinned store name taps e

  pub opening_speaks : 0 < length (text_of opening.answer)
  opening_speaks = ok_speaks _

  pub pin_speaks : 0 < length (text_of pin.answer)
  pin_speaks = unless_speaks ((auto_rule true).refusal (grounds_of e)) ((auto_rule true).done e) e (ok_speaks _)

  -- where it is not refused, updates are automatic
  pub pin_automatic : is_refusal pin.answer ≡ false → (state_behind e pin).automatic ≡ true
  pin_automatic free = by ((auto_rule true).refusal (grounds_of e)) free
    where
      by : (refusal : Option Refusal) → is_refusal (edit_unless refusal ((auto_rule true).done e) e).answer ≡ false → (edit_unless refusal ((auto_rule true).done e) e).editing.automatic ≡ true
      by None free = refl
      by (Some refusal) free = absurd (cc)

  abbrev pub behind_pin : List (List ℕ) → List Edited
  behind_pin lines = if is_refusal pin.answer then ending pin.desk else steps pin.desk lines

  -- the lines that come then
  pub lines_behind : (lines : List (List ℕ)) → is_refusal pin.answer ≡ false → steps (open_desk store (pinned_file name taps (state_behind e pin))) lines ≡ behind_pin lines
  lines_behind lines free = sym (ap (λ b. cond b (ending pin.desk) (steps pin.desk lines)) free)

-- it is carried out from rest
pub pin_moves : {D T : Type 0} (d : Ghosts D) (store : Store) (name : List ℕ) (taps : List Gauge) (e : Editing) (r : Result T Stop) (old new : Handle D d) → mode_of old ≡ updating
    → StepMoves d taps (Said.auto true) r old new → HandleAtRest d old e → MovesSafely d r e (state_behind e (pin_edit store (pinned_file name taps e))) old new
pin_moves d store name taps e r old new is moves rest =
    subst (λ (m : Mode). MovesSafely d r e (edit_file m taps (Said.auto true) e).editing old new) is
    (moves (inr (subst (λ (m : Mode). ((rule_of m taps (Said.auto true)).known (handle_known old)).automatic ≡ true) (sym is) refl)) e rest)

-- ---- trails

module _ {D : Type 0} (d : Ghosts D) (only_now : (disk : D) (s t : ℕ) (x : List ℕ) → (d.state disk).clock ≤ s → d.left_between disk s t x → d.may_leave disk x)
    (store : Store) (name : List ℕ) (taps : List Gauge) (e : Editing) (lines : List (List ℕ)) (handle : Handle D d) (rest : HandleAtRest d handle e) where
  abbrev whole_run : List Edited
  whole_run = pinned_steps (opened_pinned store name taps e) lines

  abbrev begun_at : ℕ
  begun_at = (d.state (handle_disk handle)).clock

  -- before anything was said
  pub trail_at_opening : TrailSoFar d begun_at [] e whole_run e whole_run 0 handle
  trail_at_opening = trail_begins d only_now begun_at [] e whole_run handle rest (trail_alone d only_now e handle rest)

  -- the opening was answered
  pub trail_opened : TrailSoFar d begun_at [] e whole_run e (pinned_lines (pin_edit store (pinned_file name taps e)) lines) (0 + length (file_line e.shape)) handle
  trail_opened =
      trail_goes_on d only_now begun_at [] e whole_run e 0 handle handle (opened_pinned store name taps e) (pinned_lines (pin_edit store (pinned_file name taps e)) lines) trail_at_opening (opening_speaks store name taps e)
      (leaves_still {T = Unit {0}} d only_now (Ok tt) e handle rest) rest

  -- and `auto on`
  pub trail_pinned : (new : Handle D d) → MovesSafely {T = Unit {0}} d (Ok tt) e (state_behind e (pin_edit store (pinned_file name taps e))) handle new
      → TrailSoFar d begun_at [] e whole_run (state_behind e (pin_edit store (pinned_file name taps e))) (behind_pin store name taps e lines) (0 + length (file_line e.shape) + length (text_of (pin_edit store (pinned_file name taps e)).answer)) new
  trail_pinned new moves =
      trail_goes_on d only_now begun_at [] e whole_run e (0 + length (file_line e.shape)) handle new (pin_edit store (pinned_file name taps e)) (behind_pin store name taps e lines) trail_opened (pin_speaks store name taps e) moves.leaves moves.rests

  -- and the lines behind it, where it was not refused
  pub trail_of_lines : (taps' : List Gauge) → taps' ≡ taps → (new last : Handle D d) (after : Reading) (s t : List ℕ) (told told' : Option (List ℕ)) (so_far : TrailSoFar d begun_at [] e whole_run (state_behind e (pin_edit store (pinned_file name taps e))) (behind_pin store name taps e lines)
      (0 + length (file_line e.shape) + length (text_of (pin_edit store (pinned_file name taps e)).answer)) new)
      → is_refusal (pin_edit store (pinned_file name taps e)).answer ≡ false → lines_within after.room (after.rest ++ s) ≡ lines
      → ((sent : List ℕ) × (told' ≡ Some (((t ++ file_line e.shape) ++ text_of (pin_edit store (pinned_file name taps e)).answer) ++ sent))
      × TrailsOn d begun_at last (reverse so_far.past ++ reached (length sent) (state_behind e (pin_edit store (pinned_file name taps e)))
      (steps (open_desk store (pinned_file name taps' (state_behind e (pin_edit store (pinned_file name taps e))))) (lines_within after.room (after.rest ++ s)))))
      → (sent : List ℕ) × (told' ≡ Some (t ++ sent)) × TrailsOn d begun_at last (reached (length sent) e whole_run)
  trail_of_lines taps' are new last after s t told told' so_far free same (sent, is, trail) =
      let a : List ℕ = file_line e.shape in
      let b : List ℕ = text_of (pin_edit store (pinned_file name taps e)).answer in
      let e' : Editing = state_behind e (pin_edit store (pinned_file name taps e)) in
      let all_same : steps (open_desk store (pinned_file name taps' e')) (lines_within after.room (after.rest ++ s)) ≡ behind_pin store name taps e lines =
      ap (λ t. steps (open_desk store (pinned_file name t e')) (lines_within after.room (after.rest ++ s))) are ∙ ap (steps (open_desk store (pinned_file name taps e'))) same ∙ lines_behind store name taps e lines free in
      let count : 0 + length a + length b + length sent ≡ length (a ++ (b ++ sent)) = omega (arith, length-append a (b ++ sent), length-append b sent) in (
        a ++ (b ++ sent),
        is ∙ ap (λ (l : List ℕ). Some l) (append_assoc (t ++ a) b sent ∙ append_assoc t a (b ++ sent)),
        subst (λ (m : ℕ). TrailsOn d begun_at last (reached m e whole_run)) count
            (subst (λ (l : List Editing). TrailsOn d begun_at last l) (so_far.whole (length sent))
            (subst (λ (l : List Edited). TrailsOn d begun_at last (reverse so_far.past ++ reached (length sent) e' l)) all_same trail)),
      )
