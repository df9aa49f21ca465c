-- What holds from before the body was read, by what became of the chunk that was to be put.
use Rattle.std.proofs.Common.{◌≡◌, ◌≤◌, ℕ, Result, Ok, Err, inl, inr, ⊎_elim, subst, ◌∙◌}
use Rattle.snd_disk.specs.Device.{OnlyReadsOn}
use Rattle.snd_disk.specs.State.{Rises}
use Rattle.snd_disk.specs.declared.disk.Disk.{Ghosts}
use Rattle.snd_disk.proofs.Public.{only_reads_then}
use Rattle.snd_layout.specs.declared.error.PieceError.TheVariants as piece_error
use Rattle.snd_file.specs.Handle.{disk_of, known_of}
use Rattle.snd_file.specs.declared.handle.File.{File}
use Rattle.snd_edits.specs.declared.mode.Mode.{Ghosts as ModeGhosts}
use Rattle.snd_tags.specs.Drafts.{CountsSetting, MaySet, OnlyPuts}
use Rattle.snd_tags.specs.declared.error.SetError.{SetError}
use Rattle.snd_tags.specs.declared.error.SetError.TheVariants.{TextTooLong, Put}

module _ {D M : Type 0} {mode : ModeGhosts M} (d : Ghosts D) (old mid new : File D M d mode) where
  pub only_puts_after : (result : Result (Unit {0}) SetError) → known_of mid ≡ known_of old → OnlyReadsOn d.state d.may_leave d.left_between (disk_of old) (disk_of mid) → OnlyPuts d mid new result → OnlyPuts d old new result
  only_puts_after (Ok done) same first puts = tt
  only_puts_after (Err TextTooLong) same first puts = only_reads_then _ _ _ _ _ _ _ _ _ first puts
  only_puts_after (Err (Put (piece_error.Broken step))) same first puts = only_reads_then _ _ _ _ _ _ _ _ _ first puts
  only_puts_after (Err (Put piece_error.FramesWritten)) same first puts = only_reads_then _ _ _ _ _ _ _ _ _ first puts
  only_puts_after (Err (Put piece_error.AutoOn)) same first puts = only_reads_then _ _ _ _ _ _ _ _ _ first puts
  only_puts_after (Err (Put piece_error.ReservedChunk)) same first puts = only_reads_then _ _ _ _ _ _ _ _ _ first puts
  only_puts_after (Err (Put piece_error.NoChunks)) same first puts = only_reads_then _ _ _ _ _ _ _ _ _ first puts
  only_puts_after (Err (Put piece_error.ChunkTooLarge)) same first puts = only_reads_then _ _ _ _ _ _ _ _ _ first puts
  only_puts_after (Err (Put piece_error.TooManyChunks)) same first puts = only_reads_then _ _ _ _ _ _ _ _ _ first puts
  only_puts_after (Err (Put piece_error.ContainerFull)) same first puts = only_reads_then _ _ _ _ _ _ _ _ _ first puts
  only_puts_after (Err (Put (piece_error.DiskFault step))) same first puts =
      ⊎_elim (λ may. inl (subst MaySet same may)) (λ after. inr (only_reads_then _ _ _ _ _ _ _ _ _ first after)) puts
  only_puts_after (Err (Put piece_error.Memory)) same first puts = only_reads_then _ _ _ _ _ _ _ _ _ first puts

  pub counts_after : (result : Result (Unit {0}) SetError) → (d.state (disk_of mid)).faults ≡ (d.state (disk_of old)).faults → CountsSetting d.state mid new result → CountsSetting d.state old new result
  counts_after (Ok done) same counts = counts ∙ same
  counts_after (Err TextTooLong) same counts = counts ∙ same
  counts_after (Err (Put (piece_error.Broken step))) same counts = counts ∙ same
  counts_after (Err (Put piece_error.FramesWritten)) same counts = counts ∙ same
  counts_after (Err (Put piece_error.AutoOn)) same counts = counts ∙ same
  counts_after (Err (Put piece_error.ReservedChunk)) same counts = counts ∙ same
  counts_after (Err (Put piece_error.NoChunks)) same counts = counts ∙ same
  counts_after (Err (Put piece_error.ChunkTooLarge)) same counts = counts ∙ same
  counts_after (Err (Put piece_error.TooManyChunks)) same counts = counts ∙ same
  counts_after (Err (Put piece_error.ContainerFull)) same counts = counts ∙ same
  counts_after (Err (Put (piece_error.DiskFault step))) same counts = subst (λ (n : ℕ). (n ≤ (d.state (disk_of new)).faults) × Rises n (d.state (disk_of new)).faults) same counts
  counts_after (Err (Put piece_error.Memory)) same counts = counts ∙ same
