-- The two steps of a call that sets a text: the body is read, and the whole chunk is put.
use Rattle.std.specs.Prelude.{◌≡◌, ℕ, ◌≤◌, None, List, Option, Result, Err, IfSome, IsErrOf, length, option_map, Vec}
use Rattle.std.specs.declared.alloc.Global.{Global}
use Rattle.snd_disk.specs.Device.{AsksAtMost, GoesOnFrom, OnlyReadsOn, WritesAtMost}
use Rattle.snd_disk.specs.declared.disk.Disk.{Ghosts}
use Rattle.snd_layout.specs.declared.error.PieceError.TheVariants as piece_error
use Rattle.snd_file.specs.declared.handle.File.{File}
use Rattle.snd_edits.specs.declared.mode.Mode.{Ghosts as ModeGhosts}
use Rattle.snd_edits.specs.Editing.{Editing}
use Rattle.snd_file.specs.Handle.{Stands, StandsAfter, disk_of, known_of, loan_of}
use Rattle.snd_file.specs.Outcomes.{TellsOn}
use Rattle.snd_tags.specs.Drafts.{CountsSetting, IsSet, OnlyPuts, SetLeaves, SetsBody, SetsSome}
use Rattle.snd_tags.specs.declared.error.SetError.{SetError}
use Rattle.snd_tags.specs.declared.error.SetError.TheVariants.{TextTooLong, Put}

abbrev pub no_memory : SetError
no_memory = Put piece_error.Memory

-- the bytes of a body, where there is one
abbrev pub bytes_in : Option (Vec ℕ Global) → Option (List ℕ)
bytes_in held = option_map (λ (body : Vec ℕ Global). body.items) held

-- a body that may be read as a whole
abbrev pub IsShort : Option (List ℕ) → Type 0
IsShort held = IfSome held (λ body. length body ≤ 65536)

-- the body was read, or there is none: nothing has changed
pub record Reads {D M : Type 0} {mode : ModeGhosts M} (d : Ghosts D) (old new : File D M d mode) : Type 0 where
  pub loan : loan_of new ≡ loan_of old
  pub working : (known_of old).broken ≡ None
  pub known : known_of new ≡ known_of old
  pub stands : StandsAfter d.state old new (λ e. e)
  pub faults : (d.state (disk_of new)).faults ≡ (d.state (disk_of old)).faults
  pub reads : OnlyReadsOn d.state d.may_leave d.left_between (disk_of old) (disk_of new)
  pub asked : AsksAtMost d.state 65536 (disk_of old) (disk_of new)

-- a chunk of this body was put, or why it was not; so many bytes were asked at most
pub record Puts {D M T : Type 0} {mode : ModeGhosts M} (d : Ghosts D) (most : ℕ) (id body : List ℕ) (old new : File D M d mode) (result : Result T SetError) : Type 0 where
  pub loan : loan_of new ≡ loan_of old
  pub fits : IsErrOf result TextTooLong → ⊥
  pub left : SetLeaves id body (known_of old) (known_of new) result
  pub is_set : (e : Editing) → Stands d.state old e → IsSet (Stands d.state new) id body e result
  pub puts : OnlyPuts d old new result
  pub tells : TellsOn d.state old new
  pub time : GoesOnFrom d.state d.left_between (disk_of old) (disk_of new)
  pub faults : CountsSetting d.state old new result
  pub written : WritesAtMost d.state 16777216 (disk_of old) (disk_of new)
  pub asked : AsksAtMost d.state most (disk_of old) (disk_of new)

-- no chunk was put, whatever its body was to be: the body that is there was not read
abbrev pub FailsToRead : {D M : Type 0} {mode : ModeGhosts M} (d : Ghosts D) → File D M d mode → File D M d mode → SetError → Type 0
FailsToRead d old new error = (id body : List ℕ) → Puts {T = Unit {0}} d 65536 id body old new (Err error)

-- one of the calls: a chunk was put, with a body by that which was held; or why it was not
pub record Sets {D M T : Type 0} {mode : ModeGhosts M} (d : Ghosts D) (most : ℕ) (id : List ℕ) (body_for : Editing → List ℕ) (old new : File D M d mode) (result : Result T SetError) : Type 0 where
  pub loan : loan_of new ≡ loan_of old
  pub fits : IsErrOf result TextTooLong → ⊥
  pub left : SetsSome id (known_of old) (known_of new) result
  pub sets : SetsBody d.state id body_for old new result
  pub puts : OnlyPuts d old new result
  pub tells : TellsOn d.state old new
  pub time : GoesOnFrom d.state d.left_between (disk_of old) (disk_of new)
  pub faults : CountsSetting d.state old new result
  pub written : WritesAtMost d.state 16777216 (disk_of old) (disk_of new)
  pub asked : AsksAtMost d.state most (disk_of old) (disk_of new)
