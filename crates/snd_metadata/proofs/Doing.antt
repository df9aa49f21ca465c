-- From what was found to what is done.
use Rattle.std.proofs.Common.{◌≡◌, ℕ, List, [], ◌∷◌, Bool, true, false, cond, Option, None, Some, Result, Ok, Err, refl, sym, ◌∙◌, ap, subst}
use Rattle.std.specs.Option.{unwrap_or}
use Rattle.std.specs.Prelude.{option_map}
use Rattle.std.specs.Str.{bytes_eq}
use Rattle.snd_disk.specs.declared.disk.Disk.{Ghosts}
use Rattle.snd_disk.specs.Shelf.{Files, ShelfState, put}
use Rattle.snd_disk.specs.State.{State}
use Rattle.snd_layout.specs.Fit.{fit_refusal}
use Rattle.snd_layout.specs.declared.refusal.OpenRefusal.{OpenRefusal}
use Rattle.snd_lines.specs.declared.refusal.Refusal.{Refusal}
use Rattle.snd_lines.specs.declared.refusal.Refusal.TheVariants.{Open, SameName}
use Rattle.snd_file.specs.declared.handle.File.{File}
use Rattle.snd_edits.specs.declared.mode.Mode.{Ghosts as ModeGhosts}
use Rattle.snd_inputs.proofs.Public.{read_as}
use Rattle.snd_edits.specs.Editing.{Editing, first_editing, opening_of}
use Rattle.snd_file.specs.Handle.{Stands}
use Rattle.snd_output.specs.Made.{made_file}
use Rattle.snd_output.specs.Widths.{joined}
use Rattle.snd_output.specs.declared.stop.Stop.{Stop}
use Rattle.snd_inputs.specs.Inputs.{input_in}
use Rattle.snd_layout.specs.Shape.{Shape}
use Rattle.snd_tools.proofs.Public.{MakesOnly}
use Rattle.snd_tools.specs.Done.{Done, Said, files_after, said_of}
use Rattle.snd_tools.specs.Shelves.{HasFiles}
use Rattle.snd_tools.specs.declared.answer.Answer.{Answer}
use Rattle.snd_words.specs.Stated.{Stated}
use Rattle.snd_words.specs.declared.metadata.MetadataChange.{MetadataChange}
use Rattle.snd_metadata.specs.Making.{AnswersHalt, Plans, Retags, chunks_planned, file_planned}
use Rattle.snd_metadata.specs.declared.halt.Halt.{Halt}
use Rattle.snd_metadata.specs.declared.halt.Halt.TheVariants as halt
use Rattle.snd_metadata.specs.Retagged.{bytes_made, chunks_made, first_of, refusals, refuse_if, retagged, retagged_file, retagged_with}
use Rattle.snd_metadata.specs.declared.chunks.PlannedChunk.{PlannedChunk}

-- the output alone is made, in one case, and whichever of some is the first
Only : List ℕ → Option Done → Type 0
Only output None = Unit {0}
Only output (Some done) = MakesOnly output done

record IsOnly (output : List ℕ) (o : Option Done) : Type 0 where
  only : Only output o

record FirstIsOnly (output : List ℕ) (cases : List (Option Done)) : Type 0 where
  first : (done : Done) → MakesOnly output done → MakesOnly output (unwrap_or (first_of cases) done)

none_only : (output : List ℕ) → FirstIsOnly output []
none_only output = record { first = λ done only. only }

first_only : (output : List ℕ) (o : Option Done) (rest : List (Option Done)) (done : Done) → Only output o → MakesOnly output (unwrap_or (first_of rest) done) → MakesOnly output (unwrap_or (first_of (o ∷ rest)) done)
unfolding Only
first_only output None rest done this others = others
first_only output (Some x) rest done this others = this

more_only : (output : List ℕ) (o : Option Done) (rest : List (Option Done)) → IsOnly output o → FirstIsOnly output rest → FirstIsOnly output (o ∷ rest)
more_only output o rest this others = record { first = λ done only. first_only output o rest done this.only (others.first done only) }

refused_only : (output : List ℕ) (holds : Bool) (name : List ℕ) (why : Refusal) → IsOnly output (refuse_if holds (Done.refuses name why))
unfolding Only
refused_only output true name why = record { only = tt }
refused_only output false name why = record { only = tt }

unfit_only : (output : List ℕ) (o : Option OpenRefusal) → IsOnly output (option_map (λ why. Done.refuses output (Open why)) o)
unfolding Only
unfit_only output None = record { only = tt }
unfit_only output (Some why) = record { only = tt }

refusals_only : (settings : List Stated) (input output : List ℕ) (e : Editing) → FirstIsOnly output (refusals settings input output e)
refusals_only settings input output e =
    more_only output _ _ (refused_only output _ _ _) (more_only output _ _ (refused_only output _ _ _) (more_only output _ _ (refused_only output _ _ _) (more_only output _ _ (refused_only output _ _ _) (more_only output _ _ (refused_only output _ _ _) (more_only output _ _ (refused_only output _ _ _) (more_only output _ _ (refused_only output _ _ _) (more_only output _ _ (unfit_only output (fit_refusal e.shape.kind e.shape.params)) (more_only output _ _ (refused_only output _ _ _) (none_only output)))))))))

pub makes_file : (settings : List Stated) (input output : List ℕ) (e : Editing) → MakesOnly output (retagged_file settings input output e)
makes_file settings input output e = (refusals_only settings input output e).first (Done.makes output (bytes_made settings e) e.shape.frames) refl

-- where the names differ, the input is opened, or is refused
module _ (settings : List Stated) (input output : List ℕ) (files : Files) (apart : bytes_eq input output ≡ false) where
  retagged_is : retagged settings input output files ≡ retagged_with settings input output (input_in (files input))
  retagged_is = ap (λ (t : Bool). cond t (Done.refuses output SameName) (retagged_with settings input output (input_in (files input)))) apart

  pub retagged_as : (b : List ℕ) (h : Shape) → files input ≡ Some b → opening_of b ≡ Ok (first_editing b h)
      → retagged settings input output files ≡ retagged_file settings input output (first_editing b h)
  retagged_as b h there opens =
      retagged_is ∙ ap (λ (o : Option (List ℕ)). retagged_with settings input output (input_in o)) there
      ∙ ap (retagged_with settings input output) (read_as b h opens)

  pub retagged_refused : (why : Refusal) → input_in (files input) ≡ Err why → retagged settings input output files ≡ Done.refuses input why
  retagged_refused why refused = retagged_is ∙ ap (retagged_with settings input output) refused

module _ {S : Type 0} (state : S → ShelfState) (new : S) (files : Files) where
  module _ (settings : List Stated) (input output : List ℕ) where
    module _ (e : Editing) where
      -- one of the two was refused
      pub refused_so : (name : List ℕ) (why : Refusal) → first_of (refusals settings input output e) ≡ Some (Done.refuses name why) → HasFiles state new files
          → (Said.refused name why ≡ said_of (retagged_file settings input output e)) × HasFiles state new (files_after (retagged_file settings input output e) files)
      refused_so name why is has =
          let todo : Done = Done.makes output (bytes_made settings e) e.shape.frames in
          let P : Done → Type 0 = λ d. (Said.refused name why ≡ said_of d) × HasFiles state new (files_after d files) in
          subst (λ (o : Option Done). P (unwrap_or o todo)) (sym is) (refl, has)

      -- the output was made
      pub output_made : (plan : List PlannedChunk) (frames : ℕ) → first_of (refusals settings input output e) ≡ None → chunks_planned e plan ≡ chunks_made settings e → frames ≡ e.shape.frames
          → HasFiles state new (put files output (Some (file_planned e plan)))
          → (Said.made frames ≡ said_of (retagged_file settings input output e)) × HasFiles state new (files_after (retagged_file settings input output e) files)
      output_made plan frames none chunks same has =
          let todo : Done = Done.makes output (bytes_made settings e) e.shape.frames in
          let P : Done → Type 0 = λ d. (Said.made frames ≡ said_of d) × HasFiles state new (files_after d files) in
          let bytes : file_planned e plan ≡ bytes_made settings e = ap (λ l. made_file e.shape.kind e.shape.params l (joined e.frames)) chunks in
          subst (λ (o : Option Done). P (unwrap_or o todo)) (sym none) (ap Said.made same, subst (λ (b : List ℕ). HasFiles state new (put files output (Some b))) bytes has)

-- ---- nothing is made

module _ {D M S : Type 0} {d : Ghosts D} {m : ModeGhosts M} (state : D → State) (shelf_state : S → ShelfState) (change : MetadataChange) (file : File D M d m) (shelf : S) where
  abbrev settings : List Stated
  settings = change.settings

  abbrev input : List ℕ
  input = change.input.now

  abbrev output : List ℕ
  output = change.output.now

  pub halted_so : (h : Halt) (r : Result Answer Stop) → AnswersHalt input output h r → ((e : Editing) → Stands state file e → (i o : List ℕ) → Plans settings i o e (Err h)) → Retags state shelf_state change file shelf shelf r
  halted_so (halt.Input why) (Ok answer) said plans = λ files e told stands.
      let so = refused_so shelf_state shelf files settings input output e input why (plans e stands input output) (files, told, λ n. refl) in
      (said ∙ so.0, so.1)
  halted_so (halt.Output why) (Ok answer) said plans = λ files e told stands.
      let so = refused_so shelf_state shelf files settings input output e output why (plans e stands input output) (files, told, λ n. refl) in
      (said ∙ so.0, so.1)
  halted_so (halt.Stop stop) (Err error) said plans = tt
  halted_so (halt.Stop stop) (Ok answer) said plans = absurd said
  halted_so (halt.Input why) (Err error) said plans = absurd said
  halted_so (halt.Output why) (Err error) said plans = absurd said
