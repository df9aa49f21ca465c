-- A file of ADPCM that is closed.
use Rattle.std.proofs.Common.{◌≡◌, ◌∙◌, ap, sym, subst, refl, ℕ, ◌/◌, ◌≤◌, Bool, true, false, List, Some, Ok, Err, length, arith}
use Rattle.std.specs.Prelude.{OnOk, Result}
use Rattle.std.specs.Borrow.{MutBor}
use Rattle.std.specs.Global.{Box}
use Rattle.snd_block_writer.specs.Coded.{coded, whole}
use Rattle.snd_block_writer.specs.Writing.{Writing}
use Rattle.snd_disk.specs.Device.{Tells}
use Rattle.snd_disk.specs.State.{State}
use Rattle.snd_disk.specs.declared.disk.Disk.{Ghosts}
use Rattle.snd_layout.specs.Shape.{Shape, end}
use Rattle.snd_patch.specs.Sealed.{sealed}
use Rattle.snd_file.specs.declared.handle.File.{File}
use Rattle.snd_edits.specs.declared.mode.Mode.{Ghosts as ModeGhosts}
use Rattle.snd_edits.specs.Closing.{closed_to}
use Rattle.snd_file.specs.Closing.{ClosesFile, HoldsClosed}
use Rattle.snd_edits.specs.Editing.{Editing}
use Rattle.snd_edits.specs.Edits.{sealed_to}
use Rattle.snd_edits.specs.Encoding.{over_blocks}
use Rattle.snd_frames.specs.Encoding.{HoldsClosed as HoldsSealed}
use Rattle.snd_file.specs.Handle.{Stands, disk_of, known_of, writer_of}
use Rattle.snd_edits.proofs.Public.{frames_of, whole_bytes}
use Rattle.snd_chunks.proofs.Public.{over_stays}

-- of others it is sealed
pub closed_by_hand : {D M : Type 0} {ghosts : Ghosts D} {mode : ModeGhosts M} (state : D → State) (file : File D M ghosts mode) (disk : D) → mode.ENCODES ≡ false → HoldsClosed state file disk
    → (e : Editing) → Stands state file e → Tells state disk (sealed_to e).bytes
closed_by_hand state file disk by_hand holds e stands = subst (λ (t : Bool). Tells state disk (closed_to t e).bytes) by_hand (holds e stands)

pub closed_whole : {D M : Type 0} {ghosts : Ghosts D} {mode : ModeGhosts M} (state : D → State) (file : File D M ghosts mode) (disk : D) (w : Box Writing) → mode.ENCODES ≡ true → writer_of file ≡ Some w
    → ((b : List ℕ) → (state (disk_of file)).contents ≡ Some b → (state (disk_of file)).size ≡ length b) → end (known_of file).shape (known_of file).shape.frames ≤ (state (disk_of file)).size
    → HoldsSealed state (known_of file).shape (known_of file).write_place w.value (disk_of file) disk → HoldsClosed state file disk
closed_whole state file disk w encodes is told there holds = λ e stands.
    let h = e.shape in
    let given = stands.given encodes in
    let bytes = whole_bytes h.params given.holds.form e.given in
    let reach : end h h.frames ≤ length e.bytes = subst (λ (s : Shape). end s s.frames ≤ length e.bytes) stands.shape (omega (arith, told e.bytes stands.bytes, there)) in
    let same : over_blocks e.bytes h (whole h.params e.given) ≡ e.bytes =
    over_stays e.bytes h.start (coded h.params (whole h.params e.given)) (omega (arith, reach, bytes, ap (λ (n : ℕ). end h n) given.holds.frames)) given.holds.held in
    let before : (state (disk_of file)).contents ≡ Some (over_blocks e.bytes h (whole h.params e.given)) = stands.bytes ∙ ap (λ (l : List ℕ). Some l) (sym same) in
    let of_shape = subst (λ (s : Shape). HoldsSealed state s (known_of file).write_place w.value (disk_of file) disk) stands.shape holds in
    let got = of_shape e.given e.bytes (given.stands w is) before in
    let place : (known_of file).write_place ≡ length e.given / h.params.channels = stands.write_place ∙ sym (frames_of h.params given.holds.form e.given e.write_place given.holds.whole) in
    subst (λ (t : Bool). Tells state disk (closed_to t e).bytes) (sym encodes)
    (subst (λ (n : ℕ). Tells state disk (sealed (over_blocks e.bytes h e.given) (record h { frames = n }) n)) place got)

pub closes_by : {D M : Type 0} {ghosts : Ghosts D} {mode : ModeGhosts M} (writes : Bool) (state : D → State) (file : File D M ghosts mode) (disk : MutBor D) → writes ≡ true → HoldsClosed state file disk.now
    → ClosesFile writes state file (Ok disk)
closes_by writes state file disk is holds = subst (λ (t : Bool). ClosesFile t state file (Ok disk)) (sym is) holds

-- what is no error is right
pub ok_done : {E : Type 0} (r : Result Unit E) (P : Type 0) → ((e : E) → r ≡ Err e → ⊥) → OnOk r P → P
ok_done (Ok done) P never holds = holds
ok_done (Err e) P never holds = absurd (never e refl)
