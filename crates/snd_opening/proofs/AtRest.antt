-- A file that is opened to be updated is at rest where its bytes are stable, all it declares is there, and its count lies in one sector.
use Rattle.std.proofs.Common.{◌≡◌, ◌∙◌, ap, sym, subst, ⊎_elim, Bool, false, All, List, ℕ, Ok}
use Rattle.std.specs.Prelude.{Result}
use Rattle.snd_disk.specs.Device.{OnlyReadsOn}
use Rattle.snd_disk.specs.declared.disk.Disk.{Ghosts}
use Rattle.snd_fields.specs.Laws.{IsByte}
use Rattle.snd_layout.specs.declared.error.OpenError.{OpenError}
use Rattle.snd_edits.specs.declared.mode.Mode.{Ghosts as ModeGhosts}
use Rattle.snd_edits.specs.Editing.{Editing}
use Rattle.snd_edits.specs.Laws.{IsStateOf}
use Rattle.snd_edits.proofs.Public.{updated_is_edited, updating_begins}
use Rattle.snd_file.specs.declared.handle.File.{File}
use Rattle.snd_file.specs.Handle.{Stands, disk_of}
use Rattle.snd_file.specs.Rest.{OpensAtRest}
use Rattle.snd_opening.specs.Updating.{UpdatesFile}

-- a file that is opened to be updated
pub opens_at_rest : {D M : Type 0} {mode : ModeGhosts M} (d : Ghosts D) (disk : D) (file : File D M d mode) → mode.ENCODES ≡ false → UpdatesFile d.state disk (Ok file) → OnlyReadsOn d.state d.may_leave d.left_between disk (disk_of file) → OpensAtRest d disk file
opens_at_rest d disk file by_place opened reads = λ b e told stable is fit.
    let stood = opened b told in
    let one : ◌≡◌ {A = Result Editing OpenError} (Ok stood.0) (Ok e) = sym stood.1 ∙ is in
    let same : stood.0 ≡ e = cc in
    let first = (updating_begins b e is).0 in
    let bytes : All IsByte b = subst (λ (s : Editing). All IsByte s.bytes) (sym first.is) fit.bytes in
    let off : e.automatic ≡ false = sym (ap (λ (s : Editing). s.automatic) first.is) in
    record {
      state = subst (λ (t : Bool). IsStateOf t b e) (sym by_place) (updated_is_edited b e bytes is);
      stands = subst (Stands d.state file) same stood.2;
      stable = λ x left. reads.keeps.contents ∙ stable x (reads.images.now.no_more x left);
      fit = fit;
      sized = λ either free. absurd (⊎_elim (λ on. let no = sym off ∙ on in cc) (λ encodes. let no = sym by_place ∙ encodes in cc) either);
    }
