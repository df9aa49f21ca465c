-- A file that is turned into RF64 while it is open.
use Rattle.std.proofs.Common.{◌≡◌, ◌⊎◌, ◌∙◌, ap, sym, subst, inl, inr, refl, ⊎_elim, ℕ, ◌+◌, ◌^◌, ◌≤◌, Bool, true, false, List, Option, None, Some, length, arith}
use Rattle.std.specs.Prelude.{IfSome, is_some}
use Rattle.snd_blocks.specs.Sound.{frames_in}
use Rattle.snd_container.specs.Values.{closed_end}
use Rattle.snd_disk.proofs.Public.{same_some}
use Rattle.snd_disk.specs.Device.{IsStable}
use Rattle.snd_disk.specs.State.{State}
use Rattle.snd_disk.specs.declared.disk.Disk.{Ghosts}
use Rattle.snd_layout.specs.Shape.{IsReserve, KeepsRule, Shape, end, room}
use Rattle.snd_layout.specs.declared.codec.Codec.{Codec}
use Rattle.snd_layout.specs.declared.kind.Kind.{Kind}
use Rattle.snd_layout.specs.declared.kind.Kind.TheVariants.{Wave}
use Rattle.snd_patch.proofs.Public.{leaves_weaker, sealed_length, stable_start_closes}
use Rattle.snd_patch.specs.Images.{LeavesEach}
use Rattle.snd_patch.specs.Sealed.{sealed, sealed_size}
use Rattle.snd_promote.proofs.Public.{early_start, same_closing}
use Rattle.snd_ds64.specs.Moments.{IsPromoting}
use Rattle.snd_promote.specs.Images.{IsSealing, KeepsBesideFront, LeavesPromoting}
use Rattle.snd_ds64.specs.Promoted.{promoted, promoted_shape}
use Rattle.snd_edits.proofs.Public.{closed_counted, fields_apart, sealed_closed, sealed_decoded, sealed_no_less, sealed_safe}
use Rattle.snd_edits.specs.Chunks.{SameBodies}
use Rattle.snd_edits.specs.Editing.{Editing}
use Rattle.snd_edits.specs.Laws.{IsStateOf, KeepsFile}
use Rattle.snd_edits.specs.Safe.{IsSafe}
use Rattle.snd_edits.specs.declared.mode.Mode.{Ghosts as ModeGhosts}
use Rattle.snd_reservations.proofs.Public.{promoted_frames, promoted_is_edited, promoted_is_safe, promoted_keeps_chunks, promoted_rests}
use Rattle.snd_reservations.specs.Laws.{IsReady}
use Rattle.snd_reservations.specs.States.{MayTurn, promoted_to}
use Rattle.snd_file.proofs.LeftSafe.{edited_of, keeps_of, rests_in}
use Rattle.snd_file.specs.Chunks.{KeepsChunksOn}
use Rattle.snd_file.specs.Handle.{Stands, StandsAfter, disk_of, known_of}
use Rattle.snd_file.specs.Rest.{IsAtRest}
use Rattle.snd_file.specs.declared.handle.File.{File}

-- ---- its layout and its bytes

wave_of : (o : Option ℕ) (kind : Kind) (codec : Codec) (start : ℕ) → IfSome o (IsReserve kind codec start) → is_some o ≡ true → kind ≡ Wave
wave_of None kind codec start is some = absurd (cc)
wave_of (Some len) kind codec start is some = is.is_wave

module _ (h : Shape) (rule : KeepsRule h) (reserved : is_some h.reserve ≡ true) where
  wave : h.kind ≡ Wave
  wave = wave_of h.reserve h.kind h.params.codec h.start rule.reserved reserved

  -- its frames
  pub turned_sound : (b : List ℕ) → end h h.frames ≤ length b → frames_in b h ≡ frames_in (promoted (sealed b h h.frames) h h.frames) (promoted_shape h h.frames)
  turned_sound b there =
      let held : end h h.frames ≤ length (sealed b h h.frames) = omega (arith, there, sealed_length b h h.frames rule there, sealed_no_less (length b) h h.frames) in
      sealed_decoded b h rule there held ∙ sym (promoted_frames (sealed b h h.frames) h h.frames (early_start h rule reserved) held)

  module _ (size new : ℕ) (is : new ≡ sealed_size size h h.frames) where
    -- its data are there, and what closes them
    pub turned_there : end h h.frames ≤ size → end h h.frames ≤ new
    turned_there there = omega (arith, there, is, sealed_no_less size h h.frames)

    pub turned_closed : h.trailing ≡ false → closed_end (promoted_shape h h.frames) h.frames ≤ new
    turned_closed free =
        let shut : closed_end h h.frames ≤ new = subst (λ (k : ℕ). k ≤ new) (closed_counted h h.frames) (sealed_closed size h h.frames new is free) in
        subst (λ (l : List ℕ). end h h.frames + length l ≤ new) (sym (same_closing h h.frames wave)) shut

  -- its room ends on a disk
  pub turned_room : h.start + room (promoted_shape h h.frames) + 8 ≤ 2 ^ 63
  turned_room = omega (arith, rule.data_end)

-- ---- at each moment

module _ {D M : Type 0} {mode : ModeGhosts M} (d : Ghosts D) (opened : List ℕ) (file : File D M d mode) (e : Editing) (rest : IsAtRest d opened file e) (by_place : mode.ENCODES ≡ false) (may : MayTurn (known_of file).shape) where
  of : KeepsFile opened e
  of = keeps_of mode.ENCODES opened e rest.state

  ready : IsReady opened e
  ready = record { edited = edited_of mode.ENCODES opened e by_place rest.state; bytes = rest.fit.bytes; may = subst MayTurn rest.stands.shape may }

  only : (x : List ℕ) → d.may_leave (disk_of file) x → x ≡ e.bytes
  only x left = same_some x e.bytes (sym (rest.stable x left) ∙ rest.stands.bytes)

  sealing_safe : (x : List ℕ) → IsSealing d (disk_of file) e.bytes e.shape e.shape.frames x → IsSafe e (promoted_to e) x
  sealing_safe x sealing =
      sealed_safe opened e of rest.fit ready.may.free x (promoted_to e)
      (⊎_elim (λ made. inl (stable_start_closes d.state d.may_leave (disk_of file) e.bytes e.shape e.shape.frames only x made)) (λ counting. inr counting) sealing)

  pub turning_is_safe : (new : D) → LeavesPromoting d (known_of file).shape (known_of file).shape.frames (disk_of file) new → LeavesEach d (disk_of file) new (IsSafe e (promoted_to e))
  turning_is_safe new leaves =
      leaves_weaker d (disk_of file) new (λ x. IsSealing d (disk_of file) e.bytes e.shape e.shape.frames x ⊎ IsPromoting (sealed e.bytes e.shape e.shape.frames) e.shape e.shape.frames x) (IsSafe e (promoted_to e))
      (λ x either. ⊎_elim (λ sealing. sealing_safe x sealing) (λ turning. promoted_is_safe opened e x ready turning) either)
      (subst (λ (s : Shape). LeavesPromoting d s s.frames (disk_of file) new) rest.stands.shape leaves (fields_apart opened e of) e.bytes rest.stands.bytes)

  pub turned_at_rest : (new : File D M d mode) → Stands d.state new (promoted_to e) → IsStable d.state d.may_leave (disk_of new) → IsAtRest d (promoted_to e).bytes new (promoted_to e)
  turned_at_rest new stands stable =
      rests_in d (promoted_to e).bytes new (promoted_to e) (subst (λ (t : Bool). IsStateOf t (promoted_to e).bytes (promoted_to e)) (sym by_place) (promoted_is_edited opened e ready)) (promoted_rests opened e ready) stands stable

-- ---- its further chunks

pub stay_turned : {D M : Type 0} {mode : ModeGhosts M} (d : Ghosts D) (old new : File D M d mode) → MayTurn (known_of old).shape → StandsAfter d.state old new promoted_to → KeepsChunksOn d.state old new
stay_turned d old new may stands = λ file e e' ed was is.
    let then : Stands d.state new (promoted_to e) = stands e was in
    let bytes : (promoted_to e).bytes ≡ e'.bytes = same_some (promoted_to e).bytes e'.bytes (sym then.bytes ∙ is.bytes) in
    let shape : e'.shape ≡ (promoted_to e).shape = sym is.shape ∙ then.shape in
    let keeps = promoted_keeps_chunks file e ed (subst MayTurn was.shape may) in
    record { listed = ap (λ (s : Shape). s.pieces) shape ∙ keeps.listed; bodies = subst (SameBodies e.shape.pieces e.bytes) bytes keeps.bodies }

-- ---- a call that touches nothing

pub same_front : {D : Type 0} (state : D → State) (h : Shape) (n : ℕ) (disk : D) → KeepsBesideFront state h n disk disk
same_front state h n disk = λ b told. (b, told, record { beside = λ i past beside before out. refl; front = inl (λ i first out. refl) })
