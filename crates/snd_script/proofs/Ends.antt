-- How a run that stops has served its script.
use Rattle.std.proofs.Common.{◌≡◌, inl, inr, ℕ, List, [], ◌∷◌, ◌++◌, Bool, false, ◌||◌, Option, None, Some, refl, sym, ◌∙◌, ap, subst}
use Rattle.std.proofs.lemmas.List.{append-nil}
use Rattle.snd_disk.specs.Shelf.{Files, ShelfState}
use Rattle.snd_meters.specs.Gauge.{Gauge}
use Rattle.snd_rules.specs.Desk.{Desk, OpenFile, Store, closed_desk, files_closed, files_with}
use Rattle.snd_rules.specs.Edit.{Edited}
use Rattle.snd_script.specs.Lines.{Reading}
use Rattle.snd_rules.specs.Pinned.{auto_steps, auto_too_long, pinned_opening, pinned_steps, run_steps, run_too_long}
use Rattle.snd_script.specs.PinnedRun.{run_left, run_longer}
use Rattle.snd_rules.specs.Replies.{text_of}
use Rattle.snd_rules.specs.Script.{any_refused, ending, ending_of, is_too_long, last_desk, lines_within, most_bytes, script_steps, steps, texts}
use Rattle.snd_script.specs.Served.{AnyCountRises, Appends, AppendsPart, FaultCounts, HasFiles, HasFilesBut, IsDone, IsServed, Takes, TakesPart, end_at, first_text, none_lost}
use Rattle.snd_script.specs.Serving.{CountsAt, IsStopped, Moment, Serves, ServesPart, ShelfStands, is_longer, moment, steps_left}
use Rattle.snd_script.specs.declared.serving.ScriptEnd.{ScriptEnd}
use Rattle.snd_script.specs.declared.serving.ScriptEnd.TheVariants as ends
use Rattle.snd_script.specs.declared.stop.Stop.{Stop}
use Rattle.snd_script.specs.declared.stop.Stop.TheVariants.{Ended, TooLong, Script, Sink, File, Memory}
use Rattle.snd_script.proofs.Chains.{all_of_part, last_append, or_none, refused_append, texts_append}

-- the ending says nothing, refuses nothing, and closes what is open
ending_says : (store : Store) (file : Option OpenFile) → texts (ending_of store file) ≡ []
ending_says store None = refl
ending_says store (Some file) = refl

ending_refuses : (store : Store) (file : Option OpenFile) → any_refused (ending_of store file) ≡ false
ending_refuses store None = refl
ending_refuses store (Some file) = refl

ending_closes : (store : Store) (file : Option OpenFile) → (last_desk (record { store = store; open_file = file }) (ending_of store file)).store.files ≡ files_with store.files file
ending_closes store None = refl
ending_closes store (Some file) = refl

-- all steps are taken once the ending is
module _ (all : List Edited) (start at : Desk) (m m' : Moment) (serves : Serves all (ending at) start at m m') where
  all_said : Appends m.told m'.told (texts all)
  all_said = subst (λ (l : List ℕ). Appends m.told m'.told l) (sym (ap texts serves.whole ∙ texts_append serves.done (ending at) ∙ ap (λ l. texts serves.done ++ l) (ending_says at.store at.open_file) ∙ append-nil (texts serves.done))) serves.appended

  all_noted : m.refused ≡ false → m'.refused ≡ any_refused all
  all_noted fresh = serves.noted ∙ ap (λ b. b || any_refused serves.done) fresh
      ∙ sym (ap any_refused serves.whole ∙ refused_append serves.done (ending at) ∙ ap (λ b. any_refused serves.done || b) (ending_refuses at.store at.open_file) ∙ or_none (any_refused serves.done))

  all_closed : (last_desk start all).store.files ≡ files_closed at
  all_closed = ap (λ l. (last_desk start l).store.files) serves.whole ∙ ap (λ (d : Desk). d.store.files) (last_append start serves.done (ending at)) ∙ ap (λ (d : Desk). (last_desk d (ending at)).store.files) serves.last ∙ ending_closes at.store at.open_file

  pub is_done : {S : Type 0} (state : S → ShelfState) (shelf : S) (store : Store) (taps : List Gauge) → start ≡ closed_desk store → ShelfStands state shelf taps none_lost at → IsDone state store all m.told m'.told shelf
  is_done state shelf store taps begins (f, told, same, are) = record {
    appended = all_said;
    files = (f, told, λ n. same n refl ∙ sym (ap (λ (h : Files). h n) (ap (λ (d : Desk). (last_desk d all).store.files) (sym begins) ∙ all_closed)));
  }

module _ {S : Type 0} (state : S → ShelfState) (shelf : S) (store : Store) (taps : List Gauge) (longer : Bool) (all : List Edited) (m m' : Moment) (old new : FaultCounts) where
  -- .. of a step that is not taken
  taken_part : (left : List Edited) (at : Desk) (front : List ℕ) → front ≡ first_text left → ServesPart all left front (closed_desk store) at m m' → TakesPart all left (closed_desk store) at m.told m'.told
  taken_part left at front is part = record { done = part.done; whole = part.whole; last = part.last; appended = subst (λ (l : List ℕ). AppendsPart m.told m'.told (texts part.done) l) is part.appended }

  taken : (left : List Edited) (at : Desk) → ServesPart all left [] (closed_desk store) at m m' → Takes all left (closed_desk store) at m.told m'.told
  taken left at part = record { done = part.done; whole = part.whole; last = part.last; appended = all_of_part m.told m'.told (texts part.done) part.appended }

  stands_all : (at : Desk) → ShelfStands state shelf taps none_lost at → HasFiles state shelf (files_closed at)
  stands_all at (f, told, same, are) = (f, told, λ n. same n refl)

  stands_but : (lost : List ℕ → Bool) (at : Desk) → ShelfStands state shelf taps lost at → HasFilesBut state shelf lost (files_closed at)
  stands_but lost at (f, told, same, are) = (f, told, same)

  served_until : (stop : Stop) → m.refused ≡ false → IsStopped stop longer all (closed_desk store) m m' (ShelfStands state shelf taps) → CountsAt stop old new
      → IsServed state store longer all (end_at m'.refused stop) old new m.told m'.told m'.left shelf
  served_until Ended fresh (is, (at, serves, here)) counts = (is, all_noted all (closed_desk store) at m m' serves fresh, counts, is_done all (closed_desk store) at m m' serves state shelf store taps refl here)
  served_until TooLong fresh (is, (at, serves, here)) counts = (is, counts, is_done all (closed_desk store) at m m' serves state shelf store taps refl here)
  served_until Script fresh (left, at, part, cut, here) counts = inl (counts.0, counts.1, counts.2, (left, at, taken left at part, cut, stands_all at here))
  served_until Sink fresh (step, left, at, part, here) counts =
      inr (inl (counts.0, counts.1, counts.2, (step, left, at, taken_part (step ∷ left) at (text_of step.answer) refl part, stands_all step.desk here)))
  served_until File fresh (inl (left, at, part, here)) counts = inr (inr (counts, inl (left, at, taken_part left at (first_text left) refl part, stands_but _ at here)))
  served_until File fresh (inr (step, left, at, part, here)) counts =
      inr (inr (counts, inr (step, left, at, taken_part (step ∷ left) at (text_of step.answer) refl part, stands_but _ step.desk here)))
  served_until Memory fresh (left, at, part, here) counts = (counts, (left, at, taken left at part, stands_but _ at here))

-- a run over a whole script
module _ {S : Type 0} (state : S → ShelfState) (shelf : S) (store : Store) (taps : List Gauge) (stop : Stop) (s : List ℕ) (left t : Option (List ℕ)) (m' : Moment) (old new : FaultCounts) (counts : CountsAt stop old new) where
  abbrev first : Reading → Moment
  first reading = moment reading left false t

  abbrev fresh : Reading
  fresh = record { rest = []; room = most_bytes }

  plain_served : IsStopped stop (is_longer (first fresh) s) (steps_left (closed_desk store) (first fresh) s) (closed_desk store) (first fresh) m' (ShelfStands state shelf taps)
      → IsServed state store (is_too_long most_bytes s) (script_steps store s) (end_at m'.refused stop) old new t m'.told m'.left shelf
  unfolding script_steps
  plain_served stopped = served_until state shelf store taps (is_too_long most_bytes s) (steps (closed_desk store) (lines_within most_bytes s)) (first fresh) m' old new stop refl stopped counts

  pinned_served : (name : List ℕ) → IsStopped stop (run_longer (Some name) store (first fresh) s) (run_left (Some name) store (first fresh) s) (closed_desk store) (first fresh) m' (ShelfStands state shelf taps)
      → IsServed state store (auto_too_long store name s) (auto_steps store name s) (end_at m'.refused stop) old new t m'.told m'.left shelf
  unfolding auto_steps
  pinned_served name stopped =
      served_until state shelf store taps (auto_too_long store name s) (pinned_steps (pinned_opening store name) (lines_within most_bytes s)) (first fresh) m' old new stop refl stopped counts

  served_in : (name : Option (List ℕ)) → IsStopped stop (run_longer name store (first fresh) s) (run_left name store (first fresh) s) (closed_desk store) (first fresh) m' (ShelfStands state shelf taps)
      → IsServed state store (run_too_long name store s) (run_steps name store s) (end_at m'.refused stop) old new t m'.told m'.left shelf
  served_in None stopped = plain_served stopped
  served_in (Some name) stopped = pinned_served name stopped

  pub script_served : (name : Option (List ℕ)) (reading : Reading) (ended : ScriptEnd) → reading ≡ fresh → ended ≡ end_at m'.refused stop
      → IsStopped stop (run_longer name store (first reading) s) (run_left name store (first reading) s) (closed_desk store) (first reading) m' (ShelfStands state shelf taps)
      → IsServed state store (run_too_long name store s) (run_steps name store s) ended old new t m'.told m'.left shelf
  script_served name reading ended is ends stopped =
      subst (λ (e : ScriptEnd). IsServed state store (run_too_long name store s) (run_steps name store s) e old new t m'.told m'.left shelf) (sym ends)
      (served_in name (subst (λ (x : Reading). IsStopped stop (run_longer name store (first x) s) (run_left name store (first x) s) (closed_desk store) (first x) m' (ShelfStands state shelf taps)) is stopped))

-- it ends with a fault only where a count rose
pub fault_rises : (stop : Stop) (refused : Bool) (old new : FaultCounts) → end_at refused stop ≡ ends.Fault → CountsAt stop old new → AnyCountRises old new
fault_rises Ended refused old new is counts = absurd cc
fault_rises TooLong refused old new is counts = absurd cc
fault_rises Script refused old new is counts = inr (inl counts.1)
fault_rises Sink refused old new is counts = inr (inr counts.2)
fault_rises File refused old new is counts = inl counts
fault_rises Memory refused old new is counts = absurd cc
