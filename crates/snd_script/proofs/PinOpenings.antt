-- The trail of a file that is not opened, and of one whose disk comes back.
use Rattle.std.proofs.Common.{◌≡◌, ℕ, ◌≤◌, List, [], ◌++◌, Bool, Option, Some, Result, Ok, Err, All, reverse, sym, ◌∙◌, ap, subst, arith}
use Rattle.snd_disk.proofs.Public.{same_some}
use Rattle.snd_disk.specs.Device.{IsStable, OnlyReadsOn, Tells}
use Rattle.snd_disk.specs.declared.disk.Disk.{Ghosts}
use Rattle.snd_fields.specs.Laws.{IsByte}
use Rattle.snd_layout.specs.declared.error.OpenError.{OpenError}
use Rattle.snd_layout.specs.declared.error.OpenError.TheVariants as cause
use Rattle.snd_meters.specs.Gauge.{Gauge}
use Rattle.snd_edits.specs.Editing.{Editing}
use Rattle.snd_edits.specs.Safe.{IsFit, IsSafe}
use Rattle.snd_edits.specs.Updating.{updating_of}
use Rattle.snd_edits.proofs.Public.{at_rest, updated_is_edited, updating_begins, wider}
use Rattle.snd_rules.specs.Desk.{Store}
use Rattle.snd_rules.specs.Edit.{Edited, Opening, open_edit, open_edit_of}
use Rattle.snd_script.specs.Lines.{Reading}
use Rattle.snd_script.specs.Opened.{RefusesOpen}
use Rattle.snd_rules.specs.Pinned.{auto_steps, pinned_opening, pinned_steps}
use Rattle.snd_script.specs.PinnedRun.{opened_pinned}
use Rattle.snd_rules.specs.Script.{lines_within, most_bytes}
use Rattle.snd_script.specs.Serving.{IsNotOpened}
use Rattle.snd_script.specs.Trail.{Trail, reached}
use Rattle.snd_script.specs.declared.stop.Stop.{Stop}
use Rattle.snd_script.proofs.TrailRuns.{reached_none, two_back}
use Rattle.snd_script.proofs.Trails.{going_trail, trail_from}

-- nothing was said where a file that would be opened was not: its disk failed, or there was no memory
pub nothing_said : {D T : Type 0} (d : Ghosts D) (disk : D) (b : List ℕ) (e : Editing) (error : OpenError) (r : Result T Stop) (a a' : Bool) (told told' : Option (List ℕ)) (n n' : ℕ)
    → Tells d.state disk b → updating_of b ≡ Ok e → RefusesOpen d.state Opening.for_updating disk error → IsNotOpened error r a a' told told' n n' → told' ≡ told
nothing_said d disk b e (cause.DiskFault step) r a a' told told' n n' tells is refuses answered = answered.1
nothing_said d disk b e cause.Memory r a a' told told' n n' tells is refuses answered = answered.1
nothing_said d disk b e (cause.Refused why) r a a' told told' n n' tells is refuses answered = absurd (let no : ◌≡◌ {A = Result Editing OpenError} (Ok e) (Err (cause.Refused why)) = sym is ∙ refuses b tells in cc)
nothing_said d disk b e cause.AdpcmUpdate r a a' told told' n n' tells is refuses answered = absurd (let no : ◌≡◌ {A = Result Editing OpenError} (Ok e) (Err cause.AdpcmUpdate) = sym is ∙ refuses b tells in cc)
nothing_said d disk b e cause.UnknownLength r a a' told told' n n' tells is refuses answered = absurd (let no : ◌≡◌ {A = Result Editing OpenError} (Ok e) (Err cause.UnknownLength) = sym is ∙ refuses b tells in cc)

-- a file at rest of which a crash leaves these bytes alone
module _ (between : ℕ → ℕ → List ℕ → Type 0) (images : List ℕ → Type 0) (now : ℕ) (only_now : (s t : ℕ) (x : List ℕ) → now ≤ s → between s t x → images x)
    (b : List ℕ) (e : Editing) (is : updating_of b ≡ Ok e) (fit : IsFit e) (only_b : (x : List ℕ) → images x → x ≡ b) where
  same_bytes : e.bytes ≡ b
  same_bytes = sym (ap (λ (g : Editing). g.bytes) (updating_begins b e is).0.is)

  left_safe : (e' : Editing) (x : List ℕ) → images x → IsSafe e e' x
  left_safe e' x left =
      let bytes : All IsByte b = subst (All IsByte) same_bytes fit.bytes in
      wider e e' x (subst (IsSafe e e) (same_bytes ∙ sym (only_b x left)) (at_rest b e (updated_is_edited b e bytes is).keeps fit.told))

  left_then : (e' : Editing) (s t : ℕ) (x : List ℕ) → now ≤ s → between s t x → IsSafe e e' x
  left_then e' s t x le left = left_safe e' x (only_now s t x le left)

  pub trail_resting : (all : List Edited) → Trail IsSafe between now now (reached 0 e all)
  trail_resting all =
      let next = reached_none e all in
      going_trail IsSafe between images now now (reached 0 e all) (record {
        e = e;
        next = next.0;
        past = [];
        states_are = ap reverse next.1 ∙ two_back [] e next.0;
        begun = now;
        later = omega arith;
        before = (omega arith, λ x left. left_then e now now x (omega arith) left);
        each = λ t x left. left_then next.0 now t x (omega arith) left;
        left = left_safe next.0;
      })

-- its disk was only read
pub trail_unopened : {D : Type 0} (d : Ghosts D) → ((disk : D) (s t : ℕ) (x : List ℕ) → (d.state disk).clock ≤ s → d.left_between disk s t x → d.may_leave disk x) → (disk last : D) (b : List ℕ) (e : Editing)
    → Tells d.state disk b → IsStable d.state d.may_leave disk → updating_of b ≡ Ok e → IsFit e → OnlyReadsOn d.state d.may_leave d.left_between disk last → (all : List Edited)
    → Trail IsSafe (d.left_between last) (d.state disk).clock (d.state last).clock (reached 0 e all)
trail_unopened d only_now disk last b e tells stable is fit only all =
    trail_from IsSafe (d.left_between last) (d.state last).clock (d.state disk).clock (d.state last).clock (reached 0 e all) only.images.same_time
    (trail_resting (d.left_between last) (d.may_leave last) (d.state last).clock (only_now last) b e is fit (λ x left. same_some x b (sym (stable x (only.images.now.no_more x left)) ∙ tells)) all)

-- the disk came back as another name has it, and the trail began as long ago
pub trail_came_back : {D : Type 0} (d : Ghosts D) (t0 t0' : ℕ) (disk last : D) (states : List Editing) → t0 ≡ t0' → disk ≡ last → Trail IsSafe (d.left_between last) t0 (d.state last).clock states
    → Trail IsSafe (d.left_between disk) t0' (d.state disk).clock states
trail_came_back {D = D} d t0 t0' disk last states begun same trail =
    subst (λ (t : ℕ). Trail IsSafe (d.left_between disk) t (d.state disk).clock states) begun
    (subst (λ (x : D). Trail IsSafe (d.left_between x) t0 (d.state x).clock states) (sym same) trail)

-- the steps of a whole script, with the file opened
pub auto_steps_are : (store : Store) (taps : List Gauge) (name b text : List ℕ) (e : Editing) (r : Reading) → taps ≡ store.taps → store.files name ≡ Some b → updating_of b ≡ Ok e → r ≡ record { rest = []; room = most_bytes }
    → pinned_steps (opened_pinned store name taps e) (lines_within r.room (r.rest ++ text)) ≡ auto_steps store name text
unfolding auto_steps
auto_steps_are store taps name b text e r are there is first =
    let opens : pinned_opening store name ≡ opened_pinned store name taps e = ap (open_edit store name Opening.for_pinning) there ∙ ap (open_edit_of store name Opening.for_pinning) is ∙ ap (λ t. opened_pinned store name t e) (sym are) in
    ap (λ (x : Reading). pinned_steps (opened_pinned store name taps e) (lines_within x.room (x.rest ++ text))) first ∙ ap (λ (o : Edited). pinned_steps o (lines_within most_bytes text)) (sym opens)
