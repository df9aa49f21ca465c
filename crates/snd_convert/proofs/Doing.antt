-- From what was found to what is done.
use Rattle.std.proofs.Common.{◌≡◌, ℕ, List, Bool, true, false, cond, inl, inr, Option, Some, Result, Ok, Err, refl, sym, ◌∙◌, ap, subst}
use Rattle.std.proofs.lemmas.Bool.{cases_Bool}
use Rattle.std.specs.Str.{bytes_eq}
use Rattle.snd_disk.specs.Shelf.{Files, ShelfState, put}
use Rattle.snd_inputs.specs.Inputs.{input_in, is_bad}
use Rattle.snd_inputs.proofs.Public.{read_as}
use Rattle.snd_layout.specs.Shape.{Shape}
use Rattle.snd_layout.specs.declared.kind.Kind.{Kind}
use Rattle.snd_layout.specs.declared.refusal.OpenRefusal.{OpenRefusal}
use Rattle.snd_lines.specs.declared.refusal.Refusal.{Refusal}
use Rattle.snd_lines.specs.declared.refusal.Refusal.TheVariants.{BadBlock, ContainerFull, SameName}
use Rattle.snd_edits.specs.Editing.{Editing, first_editing, opening_of}
use Rattle.snd_tools.proofs.Public.{MakesOnly}
use Rattle.snd_tools.specs.Done.{Done, Said, files_after, said_of}
use Rattle.snd_tools.specs.Shelves.{HasFiles}
use Rattle.snd_rack.specs.declared.setting.StageKind.{StageKind}
use Rattle.snd_words.specs.Asked.{Converting}
use Rattle.snd_words.specs.Suffix.{kind_by_suffix}
use Rattle.snd_convert.specs.Convert.{behind_rack, converted, done_behind, done_by_plan, done_into, done_with, file_made, is_full, made_if_good, made_of}
use Rattle.snd_convert.specs.Plan.{Planned, planned}

-- the output alone is made
makes_good : (c : Converting) (plan : Planned) (e : Editing) → MakesOnly c.output (made_if_good c plan e)
makes_good c plan e =
    let made = Done.makes c.output (file_made c.rack plan e) e.shape.frames in
    let P : Bool → Type 0 = λ t. MakesOnly c.output (cond t (Done.refuses c.input BadBlock) made) in
    elim (cases_Bool (is_bad e)) [
      | inl bad ↦ subst P (sym bad) tt
      | inr good ↦ subst P (sym good) refl
    ]

makes_of : (c : Converting) (plan : Planned) (e : Editing) → MakesOnly c.output (made_of c plan e)
makes_of c plan e =
    let P : Bool → Type 0 = λ t. MakesOnly c.output (cond t (Done.refuses c.output ContainerFull) (made_if_good c plan e)) in
    elim (cases_Bool (is_full plan e)) [
      | inl full ↦ subst P (sym full) tt
      | inr room ↦ subst P (sym room) (makes_good c plan e)
    ]

makes_by_plan : (c : Converting) (e : Editing) (r : Result Planned OpenRefusal) → MakesOnly c.output (done_by_plan c e r)
makes_by_plan c e (Err why) = tt
makes_by_plan c e (Ok plan) = makes_of c plan e

pub makes_behind : (c : Converting) (kind : Kind) (e : Editing) (r : Result ℕ Refusal) → MakesOnly c.output (done_behind c kind e r)
makes_behind c kind e (Err why) = tt
makes_behind c kind e (Ok channels) = makes_by_plan c e (planned c kind channels e.shape.params)

-- where the names differ and the suffix is known
pub converted_is : (kinds : List StageKind) (c : Converting) (files : Files) (kind : Kind) (r : Result Editing Refusal) → bytes_eq c.input c.output ≡ false → kind_by_suffix c.output ≡ Some kind
    → input_in (files c.input) ≡ r → converted kinds c files ≡ done_with kinds c kind r
converted_is kinds c files kind r apart suffix there =
    ap (λ (t : Bool). cond t (Done.refuses c.output SameName) (done_into kinds c (kind_by_suffix c.output) files)) apart
    ∙ ap (λ (k : Option Kind). done_into kinds c k files) suffix
    ∙ ap (done_with kinds c kind) there

module _ {S : Type 0} (state : S → ShelfState) (new : S) (c : Converting) (files : Files) where
  -- the output was made
  pub output_made : (plan : Planned) (e : Editing) (frames : ℕ) → is_bad e ≡ false → frames ≡ e.shape.frames → HasFiles state new (put files c.output (Some (file_made c.rack plan e)))
      → (Said.made frames ≡ said_of (made_if_good c plan e)) × HasFiles state new (files_after (made_if_good c plan e) files)
  output_made plan e frames good same has =
      let made = Done.makes c.output (file_made c.rack plan e) e.shape.frames in
      let P : Done → Type 0 = λ d. (Said.made frames ≡ said_of d) × HasFiles state new (files_after d files) in
      let Q : Bool → Type 0 = λ t. P (cond t (Done.refuses c.input BadBlock) made) in
      subst Q (sym good) (ap Said.made same, has)

  -- the input was refused
  pub bad_refused : (plan : Planned) (e : Editing) → is_bad e ≡ true → HasFiles state new files
      → (Said.refused c.input BadBlock ≡ said_of (made_if_good c plan e)) × HasFiles state new (files_after (made_if_good c plan e) files)
  bad_refused plan e bad has =
      let made = Done.makes c.output (file_made c.rack plan e) e.shape.frames in
      let P : Done → Type 0 = λ d. (Said.refused c.input BadBlock ≡ said_of d) × HasFiles state new (files_after d files) in
      let Q : Bool → Type 0 = λ t. P (cond t (Done.refuses c.input BadBlock) made) in
      subst Q (sym bad) (refl, has)

-- the file of the input is opened
pub converted_as : (kinds : List StageKind) (c : Converting) (files : Files) (kind : Kind) (b : List ℕ) (h : Shape) → bytes_eq c.input c.output ≡ false → kind_by_suffix c.output ≡ Some kind
    → files c.input ≡ Some b → opening_of b ≡ Ok (first_editing b h) → converted kinds c files ≡ done_behind c kind (first_editing b h) (behind_rack kinds c.rack h.params.channels)
converted_as kinds c files kind b h apart suffix there opens = converted_is kinds c files kind (Ok (first_editing b h)) apart suffix (ap input_in there ∙ read_as b h opens)
