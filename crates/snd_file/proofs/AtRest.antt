-- What a call leaves of a file at rest.
use Rattle.std.proofs.Common.{◌≡◌, ◌∙◌, ap, sym, subst, inl, inr, ℕ, ◌/◌, ◌≤◌, ℤ, false, true, List, Err, length}
use Rattle.std.specs.Prelude.{Result}
use Rattle.snd_disk.specs.Device.{IsStable}
use Rattle.snd_disk.specs.declared.disk.Disk.{Ghosts}
use Rattle.snd_layout.specs.Shape.{Shape}
use Rattle.snd_patch.proofs.Public.{leaves_weaker}
use Rattle.snd_patch.specs.Images.{LeavesEach}
use Rattle.snd_disk.proofs.Public.{same_some}
use Rattle.snd_file.specs.declared.handle.File.{File}
use Rattle.snd_edits.specs.declared.mode.Mode.{Ghosts as ModeGhosts}
use Rattle.snd_edits.specs.Editing.{Editing}
use Rattle.snd_edits.specs.Edits.{count_written, written_to}
use Rattle.snd_file.specs.Handle.{Stands, disk_of, known_of}
use Rattle.snd_edits.specs.Laws.{IsEdited, writes}
use Rattle.snd_frames.specs.Putting.{IsUnderWay, LeavesWritten}
use Rattle.snd_edits.specs.Outcomes.{write_outcome}
use Rattle.snd_file.specs.Rest.{IsAtRest, StaysAtRest}
use Rattle.snd_edits.specs.Safe.{IsSafe}
use Rattle.snd_edits.specs.SafeLaws.{data_then, frames_then}
use Rattle.snd_edits.specs.WriteCalls.{IsWriteRefusal, MayWrite}
use Rattle.snd_edits.specs.declared.error.WriteError.{WriteError}
use Rattle.snd_edits.specs.declared.error.WriteError.TheVariants as write
use Rattle.snd_file.proofs.LeftSafe.{edited_of, keeps_of, rests_after}
use Rattle.snd_frames.proofs.Public.{leaves_still}
use Rattle.snd_edits.proofs.Public.{at_rest, fields_apart, grown_safe, wider, written_rest, written_safe}

module _ {D M : Type 0} {mode : ModeGhosts M} (d : Ghosts D) (old : File D M d mode) where
  -- no call of the disk
  pub still_safe : ((disk : D) (s t : ℕ) (x : List ℕ) → (d.state disk).clock ≤ s → d.left_between disk s t x → d.may_leave disk x) → (opened : List ℕ) (e e' : Editing) → IsAtRest d opened old e → LeavesEach d (disk_of old) (disk_of old) (IsSafe e e')
  still_safe only_now opened e e' rest =
      leaves_weaker d (disk_of old) (disk_of old) (d.may_leave (disk_of old)) (IsSafe e e')
      (λ x left.
      let is : e.bytes ≡ x = same_some e.bytes x (sym rest.stands.bytes ∙ rest.stable x left) in
      wider e e' x (subst (IsSafe e e) is (at_rest opened e (keeps_of mode.ENCODES opened e rest.state) rest.fit.told)))
      (leaves_still d only_now (disk_of old))

  -- a write from rest, by what the handle knows
  module _ (by_place : mode.ENCODES ≡ false) (opened : List ℕ) (e : Editing) (xs : List ℤ) (rest : IsAtRest d opened old e) (auto : (known_of old).automatic ≡ true) (ready : MayWrite xs (known_of old).shape (known_of old).write_place) where
    ed : IsEdited opened e
    ed = edited_of mode.ENCODES opened e by_place rest.state

    on : e.automatic ≡ true
    on = sym rest.stands.automatic ∙ auto

    may : MayWrite xs e.shape e.write_place
    may = subst (MayWrite xs e.shape) rest.stands.write_place (subst (λ (s : Shape). MayWrite xs s (known_of old).write_place) rest.stands.shape ready)

    safe_under_way : (x : List ℕ) → IsUnderWay e.bytes (data_then xs e) e.shape (frames_then xs e) x → IsSafe e (written_to xs e) x
    safe_under_way x (inl part) = written_safe opened e ed rest.fit xs may (λ free. rest.sized (inl on) free) x part
    safe_under_way x (inr growing) = grown_safe opened e ed rest.fit xs may growing.0 (rest.sized (inl on) growing.0) x growing.1

    pub written_leaves : (k : ℕ) (last : D) → k ≡ length xs / (known_of old).shape.params.channels
        → LeavesWritten d (known_of old).shape (known_of old).write_place (count_written (known_of old).shape (known_of old).write_place k) xs (disk_of old) last
        → LeavesEach d (disk_of old) last (IsSafe e (written_to xs e))
    written_leaves k last all leaves =
        let to = disk_of old in
        let count : k ≡ length xs / e.shape.params.channels = all ∙ ap (λ (s : Shape). length xs / s.params.channels) rest.stands.shape in
        let mine : LeavesWritten d e.shape e.write_place (frames_then xs e) xs to last =
        subst (λ (m : ℕ). LeavesWritten d e.shape e.write_place (count_written e.shape e.write_place m) xs to last) count
        (subst (λ (p : ℕ). LeavesWritten d e.shape p (count_written e.shape p k) xs to last) rest.stands.write_place
        (subst (λ (s : Shape). LeavesWritten d s (known_of old).write_place (count_written s (known_of old).write_place k) xs to last) rest.stands.shape leaves)) in
        leaves_weaker d to last (IsUnderWay e.bytes (data_then xs e) e.shape (frames_then xs e)) (IsSafe e (written_to xs e)) safe_under_way
        (mine (fields_apart opened e ed.keeps) e.bytes rest.stands.bytes rest.stable)

    pub written_at_rest : (new : File D M d mode) → Stands d.state new (written_to xs e) → IsStable d.state d.may_leave (disk_of new) → IsAtRest d opened new (written_to xs e)
    written_at_rest new stands stable =
        let then = written_rest opened e xs ed rest.fit.bytes rest.fit.whole may on in
        rests_after d opened new e (written_to xs e) by_place ed (writes xs may) then stands stable

-- what refuses frames leaves a file at rest
pub stays_refused : {D M : Type 0} {mode : ModeGhosts M} (d : Ghosts D) (old new : File D M d mode) (step : Editing → Editing) (xs : List ℤ) (h : Shape) (place : ℕ) (error : WriteError)
    → IsWriteRefusal xs h place error → ((opened : List ℕ) (e : Editing) → IsAtRest d opened old e → IsAtRest d opened new e) → StaysAtRest d (write_outcome {T = Unit} (Err error)) step old new
stays_refused d old new step xs h place (write.DiskFault fault) why rests = absurd why
stays_refused d old new step xs h place _ why rests = rests

pub stays_refused_as : {D M : Type 0} {mode : ModeGhosts M} (d : Ghosts D) (old new : File D M d mode) (step : Editing → Editing) (xs : List ℤ) (h : Shape) (place : ℕ) (error : WriteError)
    → IsWriteRefusal xs h place error → ((opened : List ℕ) (e : Editing) → IsAtRest d opened old e → IsAtRest d opened new e) → (r : Result Unit WriteError) → r ≡ Err error → StaysAtRest d (write_outcome r) step old new
stays_refused_as d old new step xs h place error why rests r is =
    subst (λ (q : Result Unit WriteError). StaysAtRest d (write_outcome q) step old new) (sym is) (stays_refused d old new step xs h place error why rests)
