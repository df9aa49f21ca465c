-- From what was found to what is done.
use Rattle.std.proofs.Common.{◌≡◌, ◌∙◌, ap, sym, refl, subst, inl, inr, ℕ, List, Bool, true, false, cond, Option, Some, Result, Ok, Err}
use Rattle.std.proofs.lemmas.Bool.{cases_Bool}
use Rattle.std.specs.Str.{bytes_eq}
use Rattle.snd_disk.specs.Shelf.{Files, ShelfState, put}
use Rattle.snd_inputs.specs.Inputs.{input_in, is_bad}
use Rattle.snd_inputs.proofs.Public.{read_as}
use Rattle.snd_layout.specs.Shape.{Shape}
use Rattle.snd_lines.specs.declared.refusal.Refusal.{Refusal}
use Rattle.snd_lines.specs.declared.refusal.Refusal.TheVariants.{BadBlock, ContainerFull, NotMono, SameName}
use Rattle.snd_edits.specs.Editing.{Editing, first_editing, opening_of}
use Rattle.snd_tools.proofs.Public.{MakesOnly}
use Rattle.snd_tools.specs.Done.{Done, Said, files_after, said_of}
use Rattle.snd_tools.specs.Shelves.{HasFiles}
use Rattle.snd_words.specs.declared.raw.ExportForm.{ExportForm}
use Rattle.snd_export.specs.Export.{bytes_made, exported, exported_file, exported_good, exported_with, has_too_many, is_too_long}

module _ (form : ExportForm) (input output : List ℕ) (e : Editing) where
  abbrev made : Done
  made = Done.makes output (bytes_made form e) e.shape.frames

  -- the output alone is made
  makes_good : MakesOnly output (exported_good form input output e)
  makes_good =
      let P : Bool → Type 0 = λ t. MakesOnly output (cond t (Done.refuses input BadBlock) made) in
      elim (cases_Bool (is_bad e)) [
        | inl bad ↦ subst P (sym bad) tt
        | inr good ↦ subst P (sym good) refl
      ]

  makes_short : MakesOnly output (cond (is_too_long form e.shape) (Done.refuses output ContainerFull) (exported_good form input output e))
  makes_short =
      let P : Bool → Type 0 = λ t. MakesOnly output (cond t (Done.refuses output ContainerFull) (exported_good form input output e)) in
      elim (cases_Bool (is_too_long form e.shape)) [
        | inl long ↦ subst P (sym long) tt
        | inr short ↦ subst P (sym short) makes_good
      ]

  pub makes_file : MakesOnly output (exported_file form input output e)
  makes_file =
      let P : Bool → Type 0 = λ t. MakesOnly output (cond t (Done.refuses input NotMono) (cond (is_too_long form e.shape) (Done.refuses output ContainerFull) (exported_good form input output e))) in
      elim (cases_Bool (has_too_many form e.shape)) [
        | inl many ↦ subst P (sym many) tt
        | inr few ↦ subst P (sym few) makes_short
      ]

  -- what is to be done, by what was judged
  pub file_many : has_too_many form e.shape ≡ true → exported_file form input output e ≡ Done.refuses input NotMono
  file_many is = ap (λ (t : Bool). cond t (Done.refuses input NotMono) (cond (is_too_long form e.shape) (Done.refuses output ContainerFull) (exported_good form input output e))) is

  file_few : has_too_many form e.shape ≡ false → exported_file form input output e ≡ cond (is_too_long form e.shape) (Done.refuses output ContainerFull) (exported_good form input output e)
  file_few is = ap (λ (t : Bool). cond t (Done.refuses input NotMono) (cond (is_too_long form e.shape) (Done.refuses output ContainerFull) (exported_good form input output e))) is

  pub file_long : has_too_many form e.shape ≡ false → is_too_long form e.shape ≡ true → exported_file form input output e ≡ Done.refuses output ContainerFull
  file_long few is = file_few few ∙ ap (λ (t : Bool). cond t (Done.refuses output ContainerFull) (exported_good form input output e)) is

  pub file_good : has_too_many form e.shape ≡ false → is_too_long form e.shape ≡ false → exported_file form input output e ≡ exported_good form input output e
  file_good few is = file_few few ∙ ap (λ (t : Bool). cond t (Done.refuses output ContainerFull) (exported_good form input output e)) is

  pub good_bad : is_bad e ≡ true → exported_good form input output e ≡ Done.refuses input BadBlock
  good_bad is = ap (λ (t : Bool). cond t (Done.refuses input BadBlock) made) is

  good_makes : is_bad e ≡ false → exported_good form input output e ≡ made
  good_makes is = ap (λ (t : Bool). cond t (Done.refuses input BadBlock) made) is

  -- the output was made
  pub output_made : {S : Type 0} (state : S → ShelfState) (new : S) (files : Files) (frames : ℕ) → is_bad e ≡ false → frames ≡ e.shape.frames → HasFiles state new (put files output (Some (bytes_made form e)))
      → (Said.made frames ≡ said_of (exported_good form input output e)) × HasFiles state new (files_after (exported_good form input output e) files)
  output_made state new files frames good same has =
      subst (λ (d : Done). (Said.made frames ≡ said_of d) × HasFiles state new (files_after d files)) (sym (good_makes good)) (ap Said.made same, has)

-- where the names differ, the input is opened, or is refused
module _ (form : ExportForm) (input output : List ℕ) (files : Files) (apart : bytes_eq input output ≡ false) where
  exported_is : exported form input output files ≡ exported_with form input output (input_in (files input))
  exported_is = ap (λ (t : Bool). cond t (Done.refuses output SameName) (exported_with form input output (input_in (files input)))) apart

  pub exported_as : (b : List ℕ) (h : Shape) → files input ≡ Some b → opening_of b ≡ Ok (first_editing b h) → exported form input output files ≡ exported_file form input output (first_editing b h)
  exported_as b h there opens =
      exported_is ∙ ap (λ (o : Option (List ℕ)). exported_with form input output (input_in o)) there
      ∙ ap (exported_with form input output) (read_as b h opens)

  pub exported_refused : (why : Refusal) → input_in (files input) ≡ Err why → exported form input output files ≡ Done.refuses input why
  exported_refused why refused = exported_is ∙ ap (exported_with form input output) refused
