-- What is known of a run with a pinned file: where it was not opened, where `auto on` was refused, and how it goes on.
use Rattle.std.specs.Prelude.{if◌then◌else◌}
use Rattle.std.proofs.Common.{◌≡◌, ℕ, ◌+◌, ◌≤◌, List, [], ◌∷◌, Bool, true, false, not, ◌&&◌, ◌||◌, Option, Some, Result, Ok, Err, refl, sym, ◌∙◌, ap, subst, arith}
use Rattle.snd_command.specs.Said.{Said}
use Rattle.snd_disk.specs.Device.{Tells}
use Rattle.snd_disk.specs.State.{AtMost}
use Rattle.snd_disk.specs.declared.disk.Disk.{Ghosts}
use Rattle.snd_layout.specs.declared.error.OpenError.{OpenError}
use Rattle.snd_layout.specs.declared.error.OpenError.TheVariants as cause
use Rattle.snd_meters.specs.Gauge.{Gauge}
use Rattle.snd_edits.specs.Editing.{Editing}
use Rattle.snd_rules.specs.Desk.{Desk, Mode, OpenFile, Store, closed_desk, open_desk, updating}
use Rattle.snd_rules.specs.Edit.{Edited, Opening, keep_open, open_edit_of, open_refusal, opened_as, opened_edit, refused}
use Rattle.snd_script.specs.Lines.{Reading}
use Rattle.snd_script.specs.Opened.{OnlyOpens, RefusesOpen}
use Rattle.snd_rules.specs.Pinned.{pin_edit, pins}
use Rattle.snd_script.specs.PinnedRun.{IsPinnedStop, opened_pinned}
use Rattle.snd_rules.specs.Replies.{file_line, is_refusal, refuses, text_of}
use Rattle.snd_rules.specs.Rules.{rule_of}
use Rattle.snd_rules.specs.Script.{ending, steps}
use Rattle.snd_script.specs.Served.{Appends, lost_at, made_next, none_lost}
use Rattle.snd_script.specs.Serving.{DiskStands, IsAnswered, IsNotOpened, IsStopped, Moment, Serves, StopsLine, is_longer, lines_left, moment, steps_left}
use Rattle.snd_script.specs.declared.open.OpenAs.TheVariants.{Update}
use Rattle.snd_lines.specs.declared.refusal.Refusal.{Refusal}
use Rattle.snd_script.specs.declared.stop.Stop.{Stop}
use Rattle.snd_script.specs.declared.stop.Stop.TheVariants.{Ended, File, Memory}
use Rattle.snd_script.proofs.Chains.{line_stops, or_none, serves_one, serves_then, stopped_then}
use Rattle.snd_script.proofs.Openings.{answer_stops}

-- `auto on` on a file that is updated
pub pin_is : (store : Store) (file : OpenFile) (mode : Mode) → mode ≡ updating → keep_open store file (rule_of mode file.taps (Said.auto true)) ≡ pin_edit store file
pin_is store file mode is = ap (λ (m : Mode). keep_open store file (rule_of m file.taps (Said.auto true))) is

-- whether it was refused
pub as_noted : (r r' refused noted : Bool) → r ≡ false → r' ≡ (r || refused) → r' ≡ noted → refused ≡ noted
as_noted r r' refused noted fresh is then_is = sym (is ∙ ap (λ (b : Bool). b || refused) fresh) ∙ then_is

-- ---- the file was opened

module _ (store : Store) (file : OpenFile) (left t t1 t2 : Option (List ℕ)) (reading reading' : Reading) (r r' : Bool) (s : List ℕ) (said : Appends t t1 (file_line file.editing.shape)) where
  abbrev before : Moment
  before = moment reading left r t

  abbrev between : Moment
  between = moment reading left r t1

  abbrev behind : Moment
  behind = moment reading' left r' t2

  abbrev pin : Edited
  pin = pin_edit store file

  opened_first : (rest : List Edited) → Serves (opened_edit store file ∷ rest) rest (closed_desk store) (open_desk store file) before between
  opened_first rest = serves_one (opened_edit store file) rest (closed_desk store) before between (sym (or_none r)) said

  -- `auto on` stops the run
  pub pin_stops : (stop : Stop) (stands : (List ℕ → Bool) → Desk → Type 0) → StopsLine stop pin (open_desk store file) t1 t2 stands → IsPinnedStop stop (opened_edit store file) store before s behind stands
  pin_stops stop stands stops =
      let left_behind : List Edited = if is_refusal pin.answer then ending pin.desk else steps pin.desk (lines_left before s) in
      let longer : Bool = not (is_refusal pin.answer) && is_longer before s in
      stopped_then stop longer (opened_edit store file ∷ pin ∷ left_behind) (pin ∷ left_behind) (closed_desk store) (open_desk store file) before between behind stands (opened_first (pin ∷ left_behind))
      (line_stops stop longer pin left_behind (open_desk store file) between behind stands stops)

  module _ (noted : r' ≡ (r || is_refusal pin.answer)) (appended : Appends t1 t2 (text_of pin.answer)) where
    both : (rest : List Edited) → Serves (opened_edit store file ∷ pin ∷ rest) rest (closed_desk store) pin.desk before behind
    both rest =
        serves_then (opened_edit store file ∷ pin ∷ rest) (pin ∷ rest) rest (closed_desk store) (open_desk store file) pin.desk before between behind (opened_first (pin ∷ rest))
        (serves_one pin rest (open_desk store file) between behind noted appended)

    -- it is refused
    pub pin_refused : (stands : (List ℕ → Bool) → Desk → Type 0) → is_refusal pin.answer ≡ true → stands none_lost pin.desk → IsPinnedStop Ended (opened_edit store file) store before s behind stands
    pin_refused stands refusal here =
        subst (λ (b : Bool). IsStopped Ended (not b && is_longer before s) (opened_edit store file ∷ pin ∷ (if b then ending pin.desk else steps pin.desk (lines_left before s))) (closed_desk store) before behind stands)
        (sym refusal) (refl, (pin.desk, both (ending pin.desk), here))

    -- it is carried out, and so are lines
    pub pin_on : (stop : Stop) (desk : Desk) (last : Moment) (stands : (List ℕ → Bool) → Desk → Type 0) → is_refusal pin.answer ≡ false → reading' ≡ reading → pin.desk ≡ desk
        → IsStopped stop (is_longer behind s) (steps_left desk behind s) desk behind last stands → IsPinnedStop stop (opened_edit store file) store before s last stands
    pin_on stop desk last stands carried same is stops =
        let here : IsStopped stop (is_longer behind s) (steps_left pin.desk behind s) pin.desk behind last stands =
        subst (λ (d : Desk). IsStopped stop (is_longer behind s) (steps_left d behind s) d behind last stands) (sym is) stops in
        let there : IsStopped stop (is_longer before s) (steps pin.desk (lines_left before s)) pin.desk behind last stands =
        subst (λ (x : Reading). IsStopped stop (is_longer (moment x left r' t2) s) (steps_left pin.desk (moment x left r' t2) s) pin.desk behind last stands) same here in
        subst (λ (b : Bool). IsStopped stop (not b && is_longer before s) (opened_edit store file ∷ pin ∷ (if b then ending pin.desk else steps pin.desk (lines_left before s))) (closed_desk store) before last stands)
        (sym carried)
        (stopped_then stop (is_longer before s) (opened_edit store file ∷ pin ∷ steps pin.desk (lines_left before s)) (steps pin.desk (lines_left before s)) (closed_desk store) pin.desk before behind last stands
        (both (steps pin.desk (lines_left before s))) there)

-- ---- it was not opened

-- the run is at its end once that is answered
abbrev pub stop_of : Result (Unit {0}) Stop → Stop
stop_of (Ok x) = Ended
stop_of (Err stop) = stop

module _ (store : Store) (left t t' : Option (List ℕ)) (reading reading' : Reading) (r r' : Bool) (s : List ℕ) (stands : (List ℕ → Bool) → Desk → Type 0) where
  abbrev old : Moment
  old = moment reading left r t

  abbrev new : Moment
  new = moment reading' left r' t'

  refused_here : (result : Result (Unit {0}) Stop) (refusal : Refusal) → IsAnswered result (refuses refusal) r r' t t' → stands none_lost (closed_desk store)
      → IsPinnedStop (stop_of result) (refused refusal (closed_desk store)) store old s new stands
  refused_here (Ok x) refusal said here = (refl, (closed_desk store, serves_one (refused refusal (closed_desk store)) [] (closed_desk store) old new said.0 said.1, here))
  refused_here (Err stop) refusal said here =
      line_stops stop false (refused refusal (closed_desk store)) [] (closed_desk store) old new stands
      (answer_stops stop (refused refusal (closed_desk store)) (refuses refusal) (closed_desk store) r r' t t' stands refl said here)

  -- it is refused
  pub opening_refused : (result : Result (Unit {0}) Stop) (edited : Edited) (refusal : Refusal) → edited ≡ refused refusal (closed_desk store) → IsAnswered result (refuses refusal) r r' t t' → stands none_lost (closed_desk store)
      → IsPinnedStop (stop_of result) edited store old s new stands
  opening_refused result edited refusal is said here = subst (λ (x : Edited). IsPinnedStop (stop_of result) x store old s new stands) (sym is) (refused_here result refusal said here)

  -- or it stops the run
  pub opening_stops : (stop : Stop) (edited : Edited) → StopsLine stop edited (closed_desk store) t t' stands → IsPinnedStop stop edited store old s new stands
  opening_stops stop edited stops = line_stops stop (pins edited && is_longer old s) edited _ (closed_desk store) old new stands stops

-- the file that was not opened is on its disk
module _ {D : Type 0} (d : Ghosts D) (store : Store) (name b : List ℕ) (old new : D) (told : Tells d.state old b) (opens : OnlyOpens d Update old new) (there : store.files name ≡ Some b) (taps : List Gauge) (are : store.taps ≡ taps) where
  pub stays_on : (lost : List ℕ → Bool) → DiskStands d.state store name taps new lost (closed_desk store)
  stays_on lost = record { others = λ n other. refl; holds = λ kept. (b, opens.keeps.contents ∙ told, there); are = are }

  abbrev opened_by : Edited
  opened_by = open_edit_of store name Opening.for_pinning (opened_as Opening.for_pinning b)

  pub not_pinned_on : (error : OpenError) (result : Result (Unit {0}) Stop) (left : Option (List ℕ)) (reading reading' : Reading) (r r' : Bool) (t t' : Option (List ℕ)) (faults faults' : ℕ) (s : List ℕ)
      → RefusesOpen d.state Opening.for_updating old error → IsNotOpened error result r r' t t' faults faults'
      → IsPinnedStop (stop_of result) opened_by store (moment reading left r t) s (moment reading' left r' t') (DiskStands d.state store name taps new)
  not_pinned_on (cause.Refused x) result left reading reading' r r' t t' faults faults' s why said =
      opening_refused store left t t' reading reading' r r' s (DiskStands d.state store name taps new) result opened_by (open_refusal (cause.Refused x)) (ap (open_edit_of store name Opening.for_pinning) (why b told)) said.0 (stays_on none_lost)
  not_pinned_on cause.AdpcmUpdate result left reading reading' r r' t t' faults faults' s why said =
      opening_refused store left t t' reading reading' r r' s (DiskStands d.state store name taps new) result opened_by (open_refusal cause.AdpcmUpdate) (ap (open_edit_of store name Opening.for_pinning) (why b told)) said.0 (stays_on none_lost)
  not_pinned_on cause.UnknownLength result left reading reading' r r' t t' faults faults' s why said =
      opening_refused store left t t' reading reading' r r' s (DiskStands d.state store name taps new) result opened_by (open_refusal cause.UnknownLength) (ap (open_edit_of store name Opening.for_pinning) (why b told)) said.0 (stays_on none_lost)
  not_pinned_on (cause.DiskFault step) result left reading reading' r r' t t' faults faults' s why said =
      subst (λ (x : Result (Unit {0}) Stop). IsPinnedStop (stop_of x) opened_by store (moment reading left r t) s (moment reading' left r' t') (DiskStands d.state store name taps new)) (sym said.0)
      (opening_stops store left t t' reading reading' r r' s (DiskStands d.state store name taps new) File opened_by (said.1, stays_on (lost_at (closed_desk store) (opened_by ∷ []))))
  not_pinned_on cause.Memory result left reading reading' r r' t t' faults faults' s why said =
      subst (λ (x : Result (Unit {0}) Stop). IsPinnedStop (stop_of x) opened_by store (moment reading left r t) s (moment reading' left r' t') (DiskStands d.state store name taps new)) (sym said.0)
      (opening_stops store left t t' reading reading' r r' s (DiskStands d.state store name taps new) Memory opened_by (said.1, stays_on (made_next (closed_desk store) (opened_by ∷ []))))

-- .. or it was, with the taps of the run
pub pinned_served_as : (stop : Stop) (store : Store) (name b s : List ℕ) (e : Editing) (taps : List Gauge) (m m' : Moment) (stands : (List ℕ → Bool) → Desk → Type 0)
    → opened_as Opening.for_updating b ≡ Ok e → store.taps ≡ taps → IsPinnedStop stop (opened_pinned store name taps e) store m s m' stands
    → IsPinnedStop stop (open_edit_of store name Opening.for_pinning (opened_as Opening.for_pinning b)) store m s m' stands
pinned_served_as stop store name b s e taps m m' stands opens are stops =
    subst (λ (x : Edited). IsPinnedStop stop x store m s m' stands)
    (ap (λ (t : List Gauge). opened_pinned store name t e) (sym are) ∙ sym (ap (open_edit_of store name Opening.for_pinning) opens)) stops

-- ---- what it uses

pub used_then : (first second all n old mid new : ℕ) → first + second ≤ all → AtMost old first mid → AtMost mid (second + n) new → AtMost old (all + n) new
used_then first second all n old mid new le uses uses' = record { later = omega (arith, uses.later, uses'.later); most = omega (arith, le, uses.most, uses'.most) }
