-- How a call that looks at the input leaves it, and what it finds.
use Rattle.std.specs.Prelude.{◌≡◌, Bool, true, false, ◌||◌, List, [], Result, Ok, Err, OnOk}
use Rattle.snd_disk.specs.declared.disk.Disk.{Ghosts}
use Rattle.snd_disk.specs.Device.{OnlyReadsOn}
use Rattle.snd_disk.specs.State.{State}
use Rattle.snd_lines.specs.declared.refusal.Refusal.{Refusal}
use Rattle.snd_lines.specs.declared.refusal.Refusal.TheVariants.{BadBext, BadInfo, ChunkTooLarge}
use Rattle.snd_meta.specs.Broadcast.{Broadcast, blank}
use Rattle.snd_meta.specs.Info.{Entry}
use Rattle.snd_file.specs.declared.handle.File.{File}
use Rattle.snd_edits.specs.declared.mode.Mode.{Ghosts as ModeGhosts}
use Rattle.snd_edits.specs.Editing.{Editing}
use Rattle.snd_file.specs.Handle.{Stands, StandsAfter, disk_of, known_of, loan_of}
use Rattle.snd_output.specs.Ends.{CountsStop, IsUnchanged}
use Rattle.snd_output.specs.declared.stop.Stop.{Stop}
use Rattle.snd_edits.specs.declared.tag_error.TagError.{TagError}
use Rattle.snd_edits.specs.TagsHeld.{broadcast_of, texts_of}
use Rattle.snd_metadata.specs.declared.halt.Halt.{Halt}
use Rattle.snd_metadata.specs.declared.halt.Halt.TheVariants as halt
use Rattle.snd_metadata.specs.declared.halt.Unread.{Unread}
use Rattle.snd_metadata.specs.declared.halt.Unread.TheVariants as unread
use Rattle.snd_metadata.specs.declared.settings.Drafts.{Drafts}
use Rattle.snd_metadata.specs.Retagged.{is_too_large, is_unreadable, judged, said_or}

-- whether a call came to its end, whatever it found, or what stopped it
abbrev pub reading : {T : Type 0} → Result T Unread → Result Bool Stop
reading (Ok said) = Ok true
reading (Err unread.TooLarge) = Ok false
reading (Err unread.Bad) = Ok false
reading (Err (unread.Stop stop)) = Err stop

abbrev pub judging : {T : Type 0} → Result T Halt → Result Bool Stop
judging (Ok done) = Ok true
judging (Err (halt.Input why)) = Ok false
judging (Err (halt.Output why)) = Ok false
judging (Err (halt.Stop stop)) = Err stop

-- why no file is made where a chunk is not read
abbrev pub halted_by : Unread → Refusal → Halt
halted_by unread.TooLarge bad = halt.Input ChunkTooLarge
halted_by unread.Bad bad = halt.Input bad
halted_by (unread.Stop stop) bad = halt.Stop stop

-- An open file was only read, and nothing that is known of it has changed, unless a call of its disk failed.
pub record Looks {D M T : Type 0} {mode : ModeGhosts M} (d : Ghosts D) (old new : File D M d mode) (result : Result T Stop) : Type 0 where
  pub loan : loan_of new ≡ loan_of old
  pub known : OnOk result (known_of new ≡ known_of old)
  pub stands : StandsAfter d.state old new (λ e. e)
  pub faults : CountsStop (d.state (disk_of old)).faults (d.state (disk_of new)).faults result
  pub unchanged : IsUnchanged result
  pub reads : OnlyReadsOn d.state d.may_leave d.left_between (disk_of old) (disk_of new)

-- what is read is what a chunk says, or what a new one does; or why it is not
abbrev pub Reads : {T : Type 0} → T → Result T TagError → Result T Unread → Type 0
Reads new held (Ok said) = (said ≡ said_or new held) × (is_too_large held ≡ false) × (is_unreadable held ≡ false)
Reads new held (Err unread.TooLarge) = is_too_large held ≡ true
Reads new held (Err unread.Bad) = (is_too_large held ≡ false) × (is_unreadable held ≡ true)
Reads new held (Err (unread.Stop stop)) = Unit {0}

abbrev pub ReadsExtension : {D M : Type 0} {ghosts : Ghosts D} {mode : ModeGhosts M} → (D → State) → Bool → File D M ghosts mode → Result Broadcast Unread → Type 0
ReadsExtension state wanted file result = (e : Editing) → Stands state file e → Reads blank (judged wanted (broadcast_of e.bytes e.shape)) result

abbrev pub ReadsTexts : {D M : Type 0} {ghosts : Ghosts D} {mode : ModeGhosts M} → (D → State) → Bool → File D M ghosts mode → Result (List Entry) Unread → Type 0
ReadsTexts state wanted file result = (e : Editing) → Stands state file e → Reads [] (judged wanted (texts_of e.bytes e.shape)) result

-- the two that are to be changed, by the first of the reasons against one of them
abbrev pub Drafted : Result Broadcast TagError → Result (List Entry) TagError → Result Drafts Halt → Type 0
Drafted extension texts (Ok drafts) =
    ((is_too_large extension || is_too_large texts) ≡ false) × (is_unreadable extension ≡ false) × (is_unreadable texts ≡ false)
    × (drafts.extension ≡ said_or blank extension) × (drafts.texts ≡ said_or [] texts)
Drafted extension texts (Err (halt.Input ChunkTooLarge)) = (is_too_large extension || is_too_large texts) ≡ true
Drafted extension texts (Err (halt.Input BadBext)) = ((is_too_large extension || is_too_large texts) ≡ false) × (is_unreadable extension ≡ true)
Drafted extension texts (Err (halt.Input BadInfo)) =
    ((is_too_large extension || is_too_large texts) ≡ false) × (is_unreadable extension ≡ false) × (is_unreadable texts ≡ true)
Drafted extension texts (Err (halt.Stop stop)) = Unit {0}
Drafted extension texts (Err other) = ⊥

abbrev pub DraftsFrom : {D M : Type 0} {ghosts : Ghosts D} {mode : ModeGhosts M} → (D → State) → File D M ghosts mode → Bool → Bool → Result Drafts Halt → Type 0
DraftsFrom state file fields texts result =
    (e : Editing) → Stands state file e → Drafted (judged fields (broadcast_of e.bytes e.shape)) (judged texts (texts_of e.bytes e.shape)) result
