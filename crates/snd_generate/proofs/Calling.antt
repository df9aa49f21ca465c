-- Calls on an open file, one after the other.
use Rattle.std.proofs.Common.{◌≡◌, ◌∙◌, ap, sym, subst, ℕ, List, Some, Ok, Err}
use Rattle.std.specs.Prelude.{IfOk, Result}
use Rattle.snd_disk.specs.Shelf.{Files, ShelfState, put}
use Rattle.snd_disk.specs.Shelves.{TellsFiles}
use Rattle.snd_tools.specs.Shelves.{HasFiles}
use Rattle.snd_words.specs.declared.generate.Generation.{Generation}
use Rattle.snd_generate.specs.declared.generating.Summary.{Summary}
use Rattle.snd_generate.specs.Edited.{file_of, generated, summary_of}
use Rattle.snd_generate.specs.Generating.{Generates}
use Rattle.snd_disk.proofs.Public.{goes_on_then}
use Rattle.snd_disk.specs.Device.{Tells}
use Rattle.snd_disk.specs.State.{State}
use Rattle.snd_disk.specs.declared.disk.Disk.{Ghosts}
use Rattle.snd_file.specs.declared.handle.File.{File}
use Rattle.snd_edits.specs.declared.mode.Mode.{Ghosts as ModeGhosts}
use Rattle.snd_file.specs.Handle.{disk_of}
use Rattle.snd_output.specs.Ends.{CountsStop}
use Rattle.snd_output.specs.declared.stop.Stop.{Stop}
use Rattle.snd_patch.specs.Steps.{StillTells}
use Rattle.snd_generate.specs.Steps.{Calls}

still_tells_then : (a b c : State) → StillTells a b → StillTells b c → StillTells a c
still_tells_then a b c first second = record { told = second.told ∙ first.told; name = second.name ∙ first.name }

module _ {D M : Type 0} {d : Ghosts D} {mode : ModeGhosts M} (state : D → State) (between : D → ℕ → ℕ → List ℕ → Type 0) where
  -- a call behind one that succeeded
  pub calls_then : {T U : Type 0} (old mid new : File D M d mode) (x : T) (r : Result U Stop) → Calls state between old mid (Ok x) → Calls state between mid new r → Calls state between old new r
  calls_then old mid new x r first second = record {
    broken = second.broken;
    faults = subst (λ (k : ℕ). CountsStop k (state (disk_of new)).faults r) first.faults second.faults;
    tells = still_tells_then _ _ _ first.tells second.tells;
    time = goes_on_then _ _ _ _ _ _ first.time second.time;
  }

  -- whatever a call answers that succeeds
  pub calls_as : {T U : Type 0} (old new : File D M d mode) (x : T) (y : U) → Calls state between old new (Ok x) → Calls state between old new (Ok y)
  calls_as old new x y calls = record { broken = calls.broken; faults = calls.faults; tells = calls.tells; time = calls.time }

-- a disk that comes back tells what it held
pub told_by : {D : Type 0} (state : D → State) (back disk : D) (b c : List ℕ) → back ≡ disk → c ≡ b → Tells state back b → Tells state disk c
told_by state back disk b c same is told = subst (λ d. Tells state d c) same (told ∙ ap (λ (l : List ℕ). Some l) (sym is))

-- what is answered over a shelf that tells its files
pub generates_by : {S : Type 0} (state : S → ShelfState) (g : Generation) (old new : S) (r : Result Summary Stop)
    → IfOk r (λ summary. (files : Files) → TellsFiles state old files →
    (summary ≡ summary_of (generated g.seed g.frames)) × HasFiles state new (put files g.name.now (Some (file_of (generated g.seed g.frames)))))
    → Generates state g old new r
generates_by state g old new (Ok summary) done = done
generates_by state g old new (Err stop) done = tt
