-- What calls leave of a file at rest, at every moment; and where they leave it at rest again.
use Rattle.std.proofs.Common.{◌≡◌, ◌⊎◌, ◌∙◌, ap, sym, subst, inl, inr, ⊎_elim, ℕ, ◌<◌, ◌≤◌, Bool, true, false, cond, List, [], All, Ok}
use Rattle.std.proofs.lemmas.Bool.{cases_Bool, lt-ltb}
use Rattle.snd_disk.proofs.Public.{same_some}
use Rattle.snd_disk.specs.Device.{IsStable}
use Rattle.snd_disk.specs.Runs.{IsMade}
use Rattle.snd_disk.specs.declared.disk.Disk.{Ghosts}
use Rattle.snd_layout.specs.Shape.{Shape}
use Rattle.snd_layout.specs.declared.kind.Kind.TheVariants.{Voc}
use Rattle.snd_patch.proofs.Public.{leaves_by, leaves_then, leaves_weaker, stable_start_closes, still}
use Rattle.snd_patch.specs.Images.{IsCounting, IsCutting, IsShrinking, LeavesCutting, LeavesEach, LeavesSealing, LeavesShrinking, held_closing}
use Rattle.snd_patch.specs.Sealed.{closed, with_fewer}
use Rattle.snd_file.specs.declared.handle.File.{File}
use Rattle.snd_edits.specs.declared.mode.Mode.{Ghosts as ModeGhosts}
use Rattle.snd_edits.specs.Editing.{Editing}
use Rattle.snd_edits.specs.Edits.{cut_to, sealed_to, truncated_to}
use Rattle.snd_file.specs.Handle.{Stands, disk_of, known_of}
use Rattle.snd_edits.specs.Laws.{IsEdited, IsStateOf, KeepsFile, Leads}
use Rattle.snd_edits.specs.Outcomes.{Done, Faulted, Outcome, aimed}
use Rattle.snd_file.specs.Rest.{IsAtRest, LeavesSafe}
use Rattle.snd_edits.specs.Safe.{IsSafe}
use Rattle.snd_edits.specs.SafeLaws.{Rests}
use Rattle.snd_edits.proofs.Public.{at_rest, cut_safe, fields_apart, leads_to_edited, sealed_safe, trimmed_safe, wider}

-- what a state owes its file in every mode
pub keeps_of : (t : Bool) (opened : List ℕ) (e : Editing) → IsStateOf t opened e → KeepsFile opened e
keeps_of true opened e of = of.keeps
keeps_of false opened e of = of.keeps

-- one that is written at places
pub edited_of : (t : Bool) (opened : List ℕ) (e : Editing) → t ≡ false → IsStateOf t opened e → IsEdited opened e
edited_of t opened e by_place of = subst (λ (u : Bool). IsStateOf u opened e) by_place of

pub leaves_same : {D : Type 0} (d : Ghosts D) (a b c : D) (P : List ℕ → Type 0) → b ≡ c → LeavesEach d a b P → LeavesEach d a c P
leaves_same {D} d a b c P is leaves = subst (λ (x : D). LeavesEach d a x P) is leaves

-- a call that failed led to the state to which it leads
pub where_failed : {D : Type 0} (d : Ghosts D) (a b : D) (e : Editing) (outcome : Outcome) (step : Editing → Editing) → outcome ≡ Faulted → LeavesEach d a b (IsSafe e (step e)) → LeavesEach d a b (IsSafe e (aimed outcome step e))
where_failed d a b e outcome step failed leaves = subst (λ (o : Outcome). LeavesEach d a b (IsSafe e (aimed o step e))) (sym failed) leaves

module _ {D M : Type 0} {mode : ModeGhosts M} (d : Ghosts D) (opened : List ℕ) (file : File D M d mode) (e : Editing) (rest : IsAtRest d opened file e) where
  abbrev disk : D
  disk = disk_of file

  of : KeepsFile opened e
  of = keeps_of mode.ENCODES opened e rest.state

  only : (x : List ℕ) → d.may_leave disk x → x ≡ e.bytes
  only x left = same_some x e.bytes (sym (rest.stable x left) ∙ rest.stands.bytes)

  -- what a crash leaves at rest
  pub left_at_rest : (e' : Editing) (x : List ℕ) → d.may_leave disk x → IsSafe e e' x
  left_at_rest e' x left = wider e e' x (subst (IsSafe e e) (sym (only x left)) (at_rest opened e of rest.fit.told))

  -- no call
  pub unchanged : ((a : D) (s t : ℕ) (x : List ℕ) → (d.state a).clock ≤ s → d.left_between a s t x → d.may_leave a x) → (e' : Editing) → LeavesEach d disk disk (IsSafe e e')
  unchanged only_now e' = leaves_by d disk disk [] (IsSafe e e') (left_at_rest e') (still d.state d.may_leave d.left_between only_now disk)

  -- the file is sealed
  module _ (new : D) (leaves : LeavesSealing d (known_of file).shape (known_of file).shape.frames disk new) (e' : Editing) where
    abbrev Sealing : List ℕ → Type 0
    Sealing x = IsMade (d.may_leave disk) (held_closing e.bytes e.shape e.shape.frames) x ⊎ IsCounting (closed e.bytes e.shape e.shape.frames) e.shape e.shape.frames x

    sealing : LeavesEach d disk new Sealing
    sealing = subst (λ (s : Shape). LeavesSealing d s s.frames disk new) rest.stands.shape leaves (fields_apart opened e of) e.bytes rest.stands.bytes

    pub sealing_is_safe : ((known_of file).shape.trailing ≡ true → LeavesEach d disk new (d.may_leave disk)) → LeavesEach d disk new (IsSafe e e')
    sealing_is_safe stays = elim (cases_Bool e.shape.trailing) [
      | inl goes_on ↦ leaves_weaker d disk new (d.may_leave disk) (IsSafe e e') (left_at_rest e') (stays (ap (λ (s : Shape). s.trailing) rest.stands.shape ∙ goes_on))
      | inr free ↦ leaves_weaker d disk new Sealing (IsSafe e e')
          (λ x either. sealed_safe opened e of rest.fit free x e' (⊎_elim (λ made. inl (stable_start_closes d.state d.may_leave disk e.bytes e.shape e.shape.frames only x made)) (λ counting. inr counting) either))
          sealing
    ]

  -- frames are cut off
  pub cutting_is_safe : mode.ENCODES ≡ false → (new : D) (to : ℕ) → to < (known_of file).shape.frames → (known_of file).shape.trailing ≡ false → LeavesShrinking d (known_of file).shape to disk new → LeavesEach d disk new (IsSafe e (cut_to to e))
  cutting_is_safe by_place new to fewer free leaves =
      let less : to < e.shape.frames = subst (λ (s : Shape). to < s.frames) rest.stands.shape fewer in
      let ends : e.shape.trailing ≡ false = subst (λ (s : Shape). s.trailing ≡ false) rest.stands.shape free in
      leaves_weaker d disk new (λ x. d.may_leave disk x ⊎ (IsShrinking e.bytes e.shape to x ⊎ IsCutting (with_fewer e.bytes e.shape to) e.shape to x)) (IsSafe e (cut_to to e))
      (λ x either. ⊎_elim (λ was. left_at_rest (cut_to to e) x was) (λ new. cut_safe opened e (edited_of mode.ENCODES opened e by_place rest.state) rest.fit ends x to less new) either)
      (subst (λ (s : Shape). LeavesShrinking d s to disk new) rest.stands.shape leaves (fields_apart opened e of) e.bytes rest.stands.bytes)

  pub truncating_is_safe : (new : File D M d mode) (to : ℕ) → to < (known_of file).shape.frames → LeavesSafe d Done (cut_to to) file new → LeavesEach d disk (disk_of new) (IsSafe e (truncated_to to e))
  truncating_is_safe new to fewer leaves =
      let less : to < e.shape.frames = subst (λ (s : Shape). to < s.frames) rest.stands.shape fewer in
      subst (λ (t : Bool). LeavesEach d disk (disk_of new) (IsSafe e (cond t (cut_to to e) (sealed_to e)))) (sym (lt-ltb to e.shape.frames less)) (leaves opened e rest)

  -- the file is sealed, and then all behind its data is cut off
  module _ (whole : File D M d mode) (last : D) (e' : Editing) where
    abbrev Cutting : List ℕ → Type 0
    Cutting = IsCutting (sealed_to e).bytes (sealed_to e).shape e.shape.frames

    cut_behind : Stands d.state whole (sealed_to e) → IsStable d.state d.may_leave (disk_of whole) → LeavesCutting d (known_of whole).shape (known_of whole).shape.frames (disk_of whole) last → LeavesEach d (disk_of whole) last Cutting
    cut_behind stands stable leaves = subst (λ (s : Shape). LeavesCutting d s s.frames (disk_of whole) last) stands.shape leaves (sealed_to e).bytes stands.bytes stable

    pub trimming_is_safe : mode.ENCODES ≡ false → ((known_of file).shape.trailing ≡ true → (known_of file).shape.kind ≡ Voc) → LeavesEach d disk (disk_of whole) (IsSafe e e') → Stands d.state whole (sealed_to e) → IsStable d.state d.may_leave (disk_of whole)
        → LeavesCutting d (known_of whole).shape (known_of whole).shape.frames (disk_of whole) last → LeavesEach d disk last (IsSafe e e')
    trimming_is_safe by_place may first stands stable leaves =
        let voc = subst (λ (s : Shape). s.trailing ≡ true → s.kind ≡ Voc) rest.stands.shape may in
        leaves_then d disk (disk_of whole) last (IsSafe e e') first
        (leaves_weaker d (disk_of whole) last Cutting (IsSafe e e') (λ x cutting. trimmed_safe opened e e' x (edited_of mode.ENCODES opened e by_place rest.state) rest.fit voc cutting) (cut_behind stands stable leaves))

-- where a call leads to a state that rests
pub rests_in : {D M : Type 0} {mode : ModeGhosts M} (d : Ghosts D) (opened : List ℕ) (new : File D M d mode) (e : Editing) → IsStateOf mode.ENCODES opened e → Rests e → Stands d.state new e
    → IsStable d.state d.may_leave (disk_of new) → IsAtRest d opened new e
rests_in d opened new e of rests stands stable = record { state = of; stands = stands; stable = stable; fit = rests.0; sized = λ on free. rests.1 free }

pub rests_after : {D M : Type 0} {mode : ModeGhosts M} (d : Ghosts D) (opened : List ℕ) (new : File D M d mode) (e e' : Editing) → mode.ENCODES ≡ false → IsEdited opened e → Leads e e' → Rests e' → Stands d.state new e' → IsStable d.state d.may_leave (disk_of new)
    → IsAtRest d opened new e'
rests_after {mode = mode} d opened new e e' by_place ed leads rests stands stable =
    rests_in d opened new e' (subst (λ (t : Bool). IsStateOf t opened e') (sym by_place) (leads_to_edited opened e e' ed leads)) rests stands stable
