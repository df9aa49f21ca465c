-- A handle keeps the further chunks of its file.
use Rattle.std.proofs.Common.{◌≡◌, ◌∙◌, ap, sym, subst, ℕ, ℤ, true, List}
use Rattle.std.specs.Prelude.{Bool}
use Rattle.snd_disk.proofs.Public.{same_some}
use Rattle.snd_disk.specs.Device.{Tells}
use Rattle.snd_disk.specs.declared.disk.Disk.{Ghosts}
use Rattle.snd_layout.specs.Shape.{Shape}
use Rattle.snd_layout.specs.declared.kind.Kind.TheVariants.{Voc}
use Rattle.snd_file.specs.declared.handle.File.{File}
use Rattle.snd_edits.specs.declared.mode.Mode.{Ghosts as ModeGhosts}
use Rattle.snd_edits.specs.Chunks.{SameBodies}
use Rattle.snd_file.specs.Chunks.{GivesChunksBack, KeepsChunksOn}
use Rattle.snd_edits.specs.Editing.{Editing}
use Rattle.snd_edits.specs.Edits.{automatic_to, sealed_to, trimmed_to, truncated_to, written_to}
use Rattle.snd_file.specs.Handle.{Stands, StandsAfter, known_of}
use Rattle.snd_edits.specs.Laws.{Leads, MayTruncate, seals, sets_automatic, trims, truncates, writes}
use Rattle.snd_edits.specs.WriteCalls.{MayWrite}
use Rattle.snd_edits.proofs.Public.{leads_keep_chunks}

module _ {D M : Type 0} {mode : ModeGhosts M} (d : Ghosts D) (old : File D M d mode) where
  -- a call whose step leads on
  stay : (new : File D M d mode) (step : Editing → Editing) → StandsAfter d.state old new step → ((e : Editing) → Stands d.state old e → Leads e (step e)) → KeepsChunksOn d.state old new
  stay new step stands leads = λ file e e' ed was is.
      let then : Stands d.state new (step e) = stands e was in
      let bytes : (step e).bytes ≡ e'.bytes = same_some (step e).bytes e'.bytes (sym then.bytes ∙ is.bytes) in
      let shape : e'.shape ≡ (step e).shape = sym is.shape ∙ then.shape in
      let keeps = leads_keep_chunks file e (step e) ed (leads e was) in
      record { listed = ap (λ (s : Shape). s.pieces) shape ∙ keeps.listed; bodies = subst (SameBodies e.shape.pieces e.bytes) bytes keeps.bodies }

  pub stay_written : (new : File D M d mode) (xs : List ℤ) → MayWrite xs (known_of old).shape (known_of old).write_place → StandsAfter d.state old new (written_to xs) → KeepsChunksOn d.state old new
  stay_written new xs may stands = stay new (written_to xs) stands (λ e was. writes xs (subst (MayWrite xs e.shape) was.write_place (subst (λ (s : Shape). MayWrite xs s (known_of old).write_place) was.shape may)))

  pub stay_sealed : (new : File D M d mode) → StandsAfter d.state old new sealed_to → KeepsChunksOn d.state old new
  stay_sealed new stands = stay new sealed_to stands (λ e was. seals)

  pub stay_set : (new : File D M d mode) (on : Bool) → StandsAfter d.state old new (automatic_to on) → KeepsChunksOn d.state old new
  stay_set new on stands = stay new (automatic_to on) stands (λ e was. sets_automatic on)

  pub stay_cut : (new : File D M d mode) (to : ℕ) → MayTruncate to (known_of old).shape → StandsAfter d.state old new (truncated_to to) → KeepsChunksOn d.state old new
  stay_cut new to may stands = stay new (truncated_to to) stands (λ e was. truncates to (subst (MayTruncate to) was.shape may))

  pub stay_trimmed : (new : File D M d mode) → ((known_of old).shape.trailing ≡ true → (known_of old).shape.kind ≡ Voc) → StandsAfter d.state old new trimmed_to → KeepsChunksOn d.state old new
  stay_trimmed new may stands = stay new trimmed_to stands (λ e was. trims (subst (λ (s : Shape). s.trailing ≡ true → s.kind ≡ Voc) was.shape may))

  -- a disk that comes back sealed
  pub given_back : (disk : D) → ((e : Editing) → Stands d.state old e → Tells d.state disk (sealed_to e).bytes) → GivesChunksBack d.state old disk
  given_back disk tells = λ file e b ed was told.
      let bytes : (sealed_to e).bytes ≡ b = same_some (sealed_to e).bytes b (sym (tells e was) ∙ told) in
      subst (SameBodies e.shape.pieces e.bytes) bytes (leads_keep_chunks file e (sealed_to e) ed seals).bodies
