-- Files of ADPCM that are made: their blocks are small.
use Rattle.std.proofs.Common.{◌≡◌, ◌∙◌, ◌≤◌, ℕ, List, Bool, true, false, ap, refl, sym, subst, arith}
use Rattle.snd_disk.specs.State.{State}
use Rattle.snd_disk.specs.declared.disk.Disk.{Ghosts}
use Rattle.snd_layout.specs.Params.{Parameters}
use Rattle.snd_edits.specs.Closing.{most_closed}
use Rattle.snd_edits.specs.Editing.{Editing}
use Rattle.snd_edits.specs.Safe.{IsSafe}
use Rattle.snd_patch.specs.Images.{LeavesEach}
use Rattle.snd_rules.specs.Desk.{Mode, encodes, all_put, updating}
use Rattle.snd_rules.specs.SmallBlocks.{AreSmall, IsSmallIn}
use Rattle.snd_session.specs.Handled.{FinishesSafely, HandleAtRest, IsSmall, LeavesHandle, handle_disk, handle_params, mode_of, most_finished}
use Rattle.snd_session.specs.declared.handle.Handle.{Handle}

-- a file that is updated has none
pub updated_is_small : {D : Type 0} {ghosts : Ghosts D} (handle : Handle D ghosts) → mode_of handle ≡ updating → IsSmall handle
updated_is_small handle updated = λ is. absurd (let no : false ≡ true = sym (ap encodes updated) ∙ is in cc)

-- commands leave them small
pub small_still : {D : Type 0} {ghosts : Ghosts D} (state : D → State) (may_leave : D → List ℕ → Type 0) (left_between : D → ℕ → ℕ → List ℕ → Type 0) (old new : Handle D ghosts)
    → LeavesHandle state may_leave left_between old new → IsSmall old → IsSmall new
small_still state may_leave left_between old new leaves small =
    subst (λ (m : Mode). IsSmallIn m (handle_params new)) (sym leaves.mode) (subst (λ (p : Parameters). IsSmallIn (mode_of old) p) (sym leaves.params) small)

-- what closing it writes
closing_writes : (blocks : Bool) (p : Parameters) → (blocks ≡ true → AreSmall p) → most_closed blocks p ≤ 2112
closing_writes true p small = let bytes = (small refl).bytes in omega (arith, bytes)
closing_writes false p small = omega arith

pub finish_writes : {D : Type 0} {ghosts : Ghosts D} (handle : Handle D ghosts) → IsSmall handle → most_finished handle ≤ 2112
finish_writes handle small = closing_writes (encodes (mode_of handle)) (handle_params handle) small

pub updated_finish : {D : Type 0} {ghosts : Ghosts D} (handle : Handle D ghosts) → mode_of handle ≡ updating → most_finished handle ≡ 64
updated_finish handle updated = ap (λ (m : Mode). most_closed (encodes m) (handle_params handle)) updated

-- .. and leaves: a file that is updated keeps its frames
pub safe_updated : {D : Type 0} (d : Ghosts D) (handle : Handle D d) (disk : D) → mode_of handle ≡ updating → FinishesSafely d handle disk → (e : Editing) → HandleAtRest d handle e
    → LeavesEach d (handle_disk handle) disk (IsSafe e e)
safe_updated d handle disk updated safe e rest =
    subst (λ (m : Mode). LeavesEach d (handle_disk handle) disk (IsSafe e (all_put (encodes m) e))) updated (safe e rest)
