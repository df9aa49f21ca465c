-- What is known of a run once a file was opened, or was not, and once it was closed.
use Rattle.std.proofs.Common.{◌≡◌, ℤ, inl, inr, ℕ, List, [], ◌++◌, Bool, true, false, Option, Some, Result, Ok, Err, refl, sym, ◌∙◌, ap, subst, cond}
use Rattle.std.specs.Prelude.{unwrap_or}
use Rattle.std.specs.Str.{bytes_eq}
use Rattle.std.specs.Borrow.{MutBor}
use Rattle.snd_disk.proofs.Public.{same_bytes}
use Rattle.snd_disk.specs.Device.{Tells}
use Rattle.snd_disk.specs.State.{Rises, State}
use Rattle.snd_disk.specs.declared.disk.Disk.{Ghosts}
use Rattle.snd_layout.specs.Shape.{Shape}
use Rattle.snd_edits.specs.Editing.{Editing}
use Rattle.snd_meters.specs.Gauge.{Gauge}
use Rattle.snd_meters.specs.Gauges.{after_rest}
use Rattle.snd_rules.specs.Desk.{Desk, Mode, OpenFile, Store, closed_as, closed_bytes, closed_desk, encoding, files_closed, frames_told, open_desk, pinned, reading, store_closed, taps_closed, updating, writes, writing, open_as}
use Rattle.snd_rules.specs.Edit.{Edited, close_edit, frames_of, opened_edit}
use Rattle.snd_session.specs.Handled.{FinishesAs, HandleStands, frames_closed, handle_disk, handle_known, mode_of}
use Rattle.snd_script.specs.Lines.{Reading}
use Rattle.snd_rules.specs.Replies.{Answer, file_line, ok_line, says}
use Rattle.snd_rules.specs.Script.{ending}
use Rattle.snd_rules.specs.Rules.{Rule}
use Rattle.snd_script.specs.Served.{FaultCounts, SameCounts, lost_at, none_lost}
use Rattle.snd_script.specs.Serving.{CountsAt, DiskStands, IsAnswered, IsCounted, IsServedOn, IsServedOpen, IsStopped, Moment, OpenStands, Serves, ServesPart, StopsLine, is_longer, moment, steps_from, steps_left}
use Rattle.snd_session.specs.declared.handle.Handle.{Handle}
use Rattle.snd_session.specs.declared.handle.Handle.TheVariants.{R, W, B, U}
use Rattle.snd_script.specs.declared.stop.Stop.{Stop}
use Rattle.snd_script.specs.declared.stop.Stop.TheVariants.{Ended, TooLong, Script, Sink, File, Memory}
use Rattle.snd_script.proofs.Chains.{all_of_part, line_stops, or_none, part_of_all, serves_then, stopped_as, stopped_then}
use Rattle.snd_script.proofs.OpenChains.{answered_one}
use Rattle.snd_script.proofs.Stepping.{held_desk, lost_not}

-- an answer that does not get out
pub answer_stops : (stop : Stop) (edited : Edited) (answer : Answer) (d : Desk) (r r' : Bool) (before after : Option (List ℕ)) (stands : (List ℕ → Bool) → Desk → Type 0) → answer ≡ edited.answer
    → IsAnswered {T = Unit {0}} (Err stop) answer r r' before after → stands none_lost edited.desk → StopsLine stop edited d before after stands
answer_stops Sink edited answer d r r' before after stands is said here = (subst (λ (a : Answer). IsAnswered {T = Unit {0}} (Err Sink) a r r' before after) is said, here)
answer_stops Ended edited answer d r r' before after stands is said here = absurd said
answer_stops TooLong edited answer d r r' before after stands is said here = absurd said
answer_stops Script edited answer d r r' before after stands is said here = absurd said
answer_stops File edited answer d r r' before after stands is said here = absurd said
answer_stops Memory edited answer d r r' before after stands is said here = absurd said

-- ---- a file was opened

pub served_open_then : {T : Type 0} (r : Result T Stop) (longer longer' : Bool) (all mid : List Edited) (store : Store) (d d' : Desk) (m m' m'' : Moment) (stands : (List ℕ → Bool) → Desk → Type 0)
    → longer ≡ longer' → Serves all mid d d' m m' → IsServedOpen r longer mid store d' m' m'' stands → IsServedOpen r longer' all store d m m'' stands
served_open_then (Ok x) longer longer' all mid store d d' m m' m'' stands is first (file, s, left, serves, here, long) =
    (file, s, left, serves_then all mid _ d d' _ m m' m'' first serves, here, long ∙ is)
served_open_then (Err stop) longer longer' all mid store d d' m m' m'' stands is first stops =
    stopped_as stop longer longer' all d m m'' stands is (stopped_then stop longer all mid d d' m m' m'' stands first stops)

pub shape_stands : {D : Type 0} {ghosts : Ghosts D} (state : D → State) (handle : Handle D ghosts) (e : Editing) → HandleStands state handle e → (handle_known handle).shape ≡ e.shape
shape_stands state (R file) e stands = stands.shape
shape_stands state (W file) e stands = stands.shape
shape_stands state (B file) e stands = stands.shape
shape_stands state (U file) e stands = stands.shape

place_stands : {D : Type 0} {ghosts : Ghosts D} (state : D → State) (handle : Handle D ghosts) (e : Editing) → HandleStands state handle e → (handle_known handle).write_place ≡ e.write_place
place_stands state (R file) e stands = stands.write_place
place_stands state (W file) e stands = stands.write_place
place_stands state (B file) e stands = stands.write_place
place_stands state (U file) e stands = stands.write_place

pub frames_stand : {D : Type 0} {ghosts : Ghosts D} (state : D → State) (handle : Handle D ghosts) (e : Editing) → HandleStands state handle e → frames_closed handle ≡ frames_told (mode_of handle) e.shape e.write_place
frames_stand state handle e stands =
    ap (λ (h : Shape). frames_told (mode_of handle) h (handle_known handle).write_place) (shape_stands state handle e stands)
    ∙ ap (frames_told (mode_of handle) e.shape) (place_stands state handle e stands)

-- the taps behind a command, where the disk tells the file
pub taps_come : {D : Type 0} {ghosts : Ghosts D} (state : D → State) (handle : Handle D ghosts) (rule : Rule) (e : Editing) (taps taps' : List Gauge) → HandleStands state handle e
    → ((frames : List (List ℤ)) × ((g : Editing) → HandleStands state handle g → frames ≡ rule.feeds g) × (taps' ≡ rule.taps (handle_known handle).shape.params.codec frames taps))
    → taps' ≡ rule.taps e.shape.params.codec (rule.feeds e) taps
taps_come state handle rule e taps taps' stands (frames, are, is) =
    is ∙ ap (λ f. rule.taps (handle_known handle).shape.params.codec f taps) (are e stands)
    ∙ ap (λ (h : Shape). rule.taps h.params.codec (rule.feeds e) taps) (shape_stands state handle e stands)

bytes_stand : {D : Type 0} {ghosts : Ghosts D} (state : D → State) (handle : Handle D ghosts) (e : Editing) → HandleStands state handle e → Tells state (handle_disk handle) e.bytes
bytes_stand state (R file) e stands = stands.bytes
bytes_stand state (W file) e stands = stands.bytes
bytes_stand state (B file) e stands = stands.bytes
bytes_stand state (U file) e stands = stands.bytes

pub said_of_shape : (h h' : Shape) → h ≡ h' → says (file_line h) ≡ says (file_line h')
said_of_shape h h' is = ap (λ (x : Shape). says (file_line x)) is

-- its line was said
pub file_said : (left : Option (List ℕ)) (at : Reading) (r : Bool) (t t' : Option (List ℕ)) (s : List ℕ) (store : Store) (file : OpenFile) (shape : Shape) → shape ≡ file.editing.shape
    → IsAnswered {T = Unit {0}} (Ok tt) (says (file_line shape)) false false t t'
    → Serves (steps_from (opened_edit store file) (moment at left r t) s) (steps_left (open_desk store file) (moment at left r t') s) (closed_desk store) (open_desk store file) (moment at left r t) (moment at left r t')
file_said left at r t t' s store file shape is said =
    answered_one left at at r r t t' s refl (opened_edit store file) (closed_desk store) (sym (or_none r)) (subst (λ (h : Shape). (x : List ℕ) → t ≡ Some x → t' ≡ Some (x ++ file_line h)) is said.1)

-- ---- it is closed

module _ {D : Type 0} {ghosts : Ghosts D} (state : D → State) (store : Store) (name : List ℕ) (stays : Bool) (taps : List Gauge) (handle : Handle D ghosts) (disk : D) where
  others : (editing : Editing) (desk : Desk) → desk ≡ held_desk store name stays taps handle editing → (n : List ℕ) → bytes_eq n name ≡ false → files_closed desk n ≡ store.files n
  others editing desk is n other = ap (λ d. files_closed d n) is ∙ ap (λ b. cond b (Some (closed_bytes (record { name = name; mode = open_as stays (mode_of handle); editing = editing; taps = taps }))) (store.files n)) other

  own : (editing : Editing) (desk : Desk) → desk ≡ held_desk store name stays taps handle editing → files_closed desk name ≡ Some (closed_as (open_as stays (mode_of handle)) editing).bytes
  own editing desk is = ap (λ d. files_closed d name) is ∙ ap (λ b. cond b (Some (closed_as (open_as stays (mode_of handle)) editing).bytes) (store.files name)) (same_bytes name)

  resting : (taps' : List Gauge) → taps' ≡ after_rest taps → (editing : Editing) (desk : Desk) → desk ≡ held_desk store name stays taps handle editing → taps_closed desk ≡ taps'
  resting taps' rests editing desk is = ap (λ d. taps_closed d) is ∙ sym rests

  -- the disk that came back holds the file
  pub disk_stands : (taps' : List Gauge) → taps' ≡ after_rest taps → (lost : List ℕ → Bool) (desk : Desk) → ((e : Editing) → HandleStands state handle e → Tells state disk (closed_as (open_as stays (mode_of handle)) e).bytes)
      → OpenStands state store name stays taps handle lost desk → DiskStands state store name taps' disk lost desk
  disk_stands taps' rests lost desk closes here = record {
    others = others here.editing desk here.is;
    are = resting taps' rests here.editing desk here.is;
    holds = λ kept. ((closed_as (open_as stays (mode_of handle)) here.editing).bytes, closes here.editing (here.stands kept), own here.editing desk here.is);
  }

  -- .. or it failed
  pub disk_lost : (taps' : List Gauge) → taps' ≡ after_rest taps → (lost : List ℕ → Bool) (left : List Edited) (desk : Desk) → OpenStands state store name stays taps handle lost desk
      → DiskStands state store name taps' disk (lost_at desk left) desk
  disk_lost taps' rests lost left desk here = record {
    others = others here.editing desk here.is;
    are = resting taps' rests here.editing desk here.is;
    holds = λ kept. absurd (lost_not name _ (sym (ap (λ d. lost_at d left name) here.is) ∙ kept));
  }

-- once the file is closed
pub desk_closed : {D : Type 0} (state : D → State) (store : Store) (name : List ℕ) (taps : List Gauge) (disk : D) (lost : List ℕ → Bool) (desk : Desk) → DiskStands state store name taps disk lost desk
    → DiskStands state store name taps disk lost (closed_desk (store_closed desk))
desk_closed state store name taps disk lost desk here = record { others = here.others; holds = here.holds; are = here.are }

-- a file that is not written is closed as it is
closed_unwritten : (mode : Mode) (e : Editing) → writes mode ≡ false → closed_as mode e ≡ e
closed_unwritten reading e plain = refl
closed_unwritten writing e plain = absurd (cc)
closed_unwritten encoding e plain = absurd (cc)
closed_unwritten updating e plain = absurd (cc)
closed_unwritten pinned e plain = absurd (cc)

pub finished_tells : {D : Type 0} {ghosts : Ghosts D} (state : D → State) (handle : Handle D ghosts) (disk : D) (writing : Bool) (may_leave : D → List ℕ → Type 0) (r : ℕ × MutBor D)
    → writing ≡ writes (mode_of handle) → FinishesAs writing state may_leave handle (Ok r) → r.1.now ≡ disk → (e : Editing) → HandleStands state handle e → Tells state disk (closed_as (mode_of handle) e).bytes
finished_tells {D = D} state handle disk true may_leave r mode back is e stands = subst (λ (d : D). Tells state d (closed_as (mode_of handle) e).bytes) is (back.0 e stands)
finished_tells {D = D} state handle disk false may_leave r mode back is e stands =
    subst (λ (g : Editing). Tells state disk g.bytes) (sym (closed_unwritten (mode_of handle) e (sym mode)))
    (subst (λ (d : D). Tells state d e.bytes) (sym back ∙ is) (bytes_stand state handle e stands))

-- its frames are those that the handle counts
pub frames_open : {D : Type 0} {ghosts : Ghosts D} (state : D → State) (store : Store) (name : List ℕ) (taps : List Gauge) (handle : Handle D ghosts) (file : OpenFile) → OpenStands state store name false taps handle none_lost (open_desk store file)
    → frames_closed handle ≡ frames_of file
frames_open state store name taps handle file here =
    frames_stand state handle here.editing (here.stands refl) ∙ sym (ap (λ (d : Desk). frames_of (unwrap_or d.open_file file)) here.is)

-- what stands at a desk, as another predicate says it
pub stopped_stands : (stop : Stop) (longer : Bool) (all : List Edited) (d : Desk) (m m' : Moment) (stands stands' : (List ℕ → Bool) → Desk → Type 0)
    → ((lost : List ℕ → Bool) (desk : Desk) → stands lost desk → stands' lost desk) → IsStopped stop longer all d m m' stands → IsStopped stop longer all d m m' stands'
stopped_stands Ended longer all d m m' stands stands' to stops = (stops.0, (stops.1.0, stops.1.1, to none_lost stops.1.0 stops.1.2))
stopped_stands TooLong longer all d m m' stands stands' to stops = (stops.0, (stops.1.0, stops.1.1, to none_lost stops.1.0 stops.1.2))
stopped_stands Script longer all d m m' stands stands' to stops = (stops.0, stops.1, stops.2, stops.3, to none_lost stops.1 stops.4)
stopped_stands Sink longer all d m m' stands stands' to stops = (stops.0, stops.1, stops.2, stops.3, to none_lost stops.0.desk stops.4)
stopped_stands File longer all d m m' stands stands' to (inl stops) = inl (stops.0, stops.1, stops.2, to (lost_at stops.1 stops.0) stops.1 stops.3)
stopped_stands File longer all d m m' stands stands' to (inr stops) = inr (stops.0, stops.1, stops.2, stops.3, to (lost_at stops.0.desk stops.1) stops.0.desk stops.4)
stopped_stands Memory longer all d m m' stands stands' to stops = (stops.0, stops.1, stops.2, to _ stops.1 stops.3)

-- the run had stopped, and then the file could not be closed
part_of_serves : (all left : List Edited) (front : List ℕ) (d d' : Desk) (m m' : Moment) → Serves all left d d' m m' → ServesPart all left front d d' m m'
part_of_serves all left front d d' m m' serves = record { done = serves.done; whole = serves.whole; last = serves.last; appended = part_of_all m.told m'.told _ front serves.appended }

part_of_part : (all left : List Edited) (front : List ℕ) (d d' : Desk) (m m' : Moment) → ServesPart all left [] d d' m m' → ServesPart all left front d d' m m'
part_of_part all left front d d' m m' serves = record { done = serves.done; whole = serves.whole; last = serves.last; appended = part_of_all m.told m'.told _ front (all_of_part m.told m'.told _ serves.appended) }

module _ (longer : Bool) (all : List Edited) (d : Desk) (m m' : Moment) (stands stands' : (List ℕ → Bool) → Desk → Type 0) (to : (lost : List ℕ → Bool) (left : List Edited) (desk : Desk) → stands lost desk → stands' (lost_at desk left) desk) where
  pub stopped_failed : (stop : Stop) → IsStopped stop longer all d m m' stands → IsStopped File longer all d m m' stands'
  stopped_failed Ended stops = inl (ending stops.1.0, stops.1.0, part_of_serves all _ _ d _ m m' stops.1.1, to none_lost _ stops.1.0 stops.1.2)
  stopped_failed TooLong stops = inl (ending stops.1.0, stops.1.0, part_of_serves all _ _ d _ m m' stops.1.1, to none_lost _ stops.1.0 stops.1.2)
  stopped_failed Script stops = inl (stops.0, stops.1, part_of_part all _ _ d _ m m' stops.2, to none_lost _ stops.1 stops.4)
  stopped_failed Sink stops = inr (stops.0, stops.1, stops.2, stops.3, to none_lost stops.1 stops.0.desk stops.4)
  stopped_failed File (inl stops) = inl (stops.0, stops.1, stops.2, to (lost_at stops.1 stops.0) stops.0 stops.1 stops.3)
  stopped_failed File (inr stops) = inr (stops.0, stops.1, stops.2, stops.3, to (lost_at stops.0.desk stops.1) stops.1 stops.0.desk stops.4)
  stopped_failed Memory stops = inl (stops.0, stops.1, part_of_part all _ _ d _ m m' stops.2, to _ stops.0 stops.1 stops.3)

  pub open_failed : {T : Type 0} (x : T) (store : Store) → IsServedOpen (Ok x) longer all store d m m' stands → IsStopped File longer all d m m' stands'
  open_failed x store (file, s, left, serves, here, long) = inl (steps_from (close_edit store file) m' s, open_desk store file, part_of_serves all _ _ d _ m m' serves, to none_lost (steps_from (close_edit store file) m' s) (open_desk store file) here)

-- the reply to closing
pub closed_then : (r : Result (Unit {0}) Stop) (store : Store) (longer : Bool) (all : List Edited) (d : Desk) (m : Moment) (at : Reading) (left : Option (List ℕ)) (refused : Bool) (t t' : Option (List ℕ)) (s : List ℕ) (file : OpenFile) (n : ℕ) (stands : (List ℕ → Bool) → Desk → Type 0)
    → n ≡ frames_of file → IsAnswered r (says (ok_line n)) false false t t' → left ≡ Some s
    → Serves all (steps_from (close_edit store file) (moment at left refused t) s) d (open_desk store file) m (moment at left refused t) → is_longer (moment at left refused t) s ≡ longer
    → stands none_lost (closed_desk (store_closed (open_desk store file))) → IsServedOn r longer all d m (moment at left refused t') stands
closed_then (Ok x) store longer all d m at left refused t t' s file n stands count said here serves long stand = (
  store_closed (open_desk store file),
  s,
  here,
  serves_then all (steps_from (close_edit store file) (moment at left refused t) s) _ d (open_desk store file) _ m (moment at left refused t) (moment at left refused t') serves
      (answered_one left at at refused refused t t' s refl (close_edit store file) (open_desk store file) (sym (or_none refused)) (subst (λ (k : ℕ). (x : List ℕ) → t ≡ Some x → t' ≡ Some (x ++ ok_line k)) count said.1)),
  stand,
  long,
)
closed_then (Err stop) store longer all d m at left refused t t' s file n stands count said here serves long stand =
    stopped_then stop longer all (steps_from (close_edit store file) (moment at left refused t) s) d (open_desk store file) m (moment at left refused t) (moment at left refused t') stands serves
    (line_stops stop longer (close_edit store file) (steps_left (close_edit store file).desk (moment at left refused t) s) (open_desk store file) (moment at left refused t) (moment at left refused t') stands
    (answer_stops stop (close_edit store file) (says (ok_line n)) (open_desk store file) false false t t' stands (ap (λ k. says (ok_line k)) count) said stand))

-- ---- counts

pub same_counts_then : (a b c : FaultCounts) → SameCounts a b → SameCounts b c → SameCounts a c
same_counts_then a b c first second = record { shelf = second.shelf ∙ first.shelf; script = second.script ∙ first.script; out = second.out ∙ first.out }

pub counts_at_then : (stop : Stop) (a b c : FaultCounts) → SameCounts a b → CountsAt stop b c → CountsAt stop a c
counts_at_then Ended a b c same counts = same_counts_then a b c same counts
counts_at_then TooLong a b c same counts = same_counts_then a b c same counts
counts_at_then Script a b c same counts = (counts.0 ∙ same.shelf, subst (λ (n : ℕ). Rises n c.script) same.script counts.1, counts.2 ∙ same.out)
counts_at_then Sink a b c same counts = (counts.0 ∙ same.shelf, counts.1 ∙ same.script, subst (λ (n : ℕ). Rises n c.out) same.out counts.2)
counts_at_then File a b c same counts = subst (λ (n : ℕ). Rises n c.shelf) same.shelf counts
counts_at_then Memory a b c same counts = same_counts_then a b c same counts

pub counted_then : {T : Type 0} (r : Result T Stop) (a b c : FaultCounts) → SameCounts a b → IsCounted r b c → IsCounted r a c
counted_then (Ok x) a b c same counts = same_counts_then a b c same counts
counted_then (Err stop) a b c same counts = counts_at_then stop a b c same counts
