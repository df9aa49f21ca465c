-- How the output is made, and how what was looked at is judged. It is said for the proofs alone.
use Rattle.std.specs.Prelude.{◌≡◌, ℕ, ◌≤◌, List, [], ◌∷◌, ◌++◌, All, None, Some, Result, Ok, IfOk, true, false, length, slice_index_or}
use Rattle.std.specs.Str.{bytes_eq}
use Rattle.snd_disk.specs.Device.{Tells}
use Rattle.snd_disk.specs.Shelf.{Files, ShelfState, put}
use Rattle.snd_disk.specs.Shelves.{TellsFiles}
use Rattle.snd_disk.specs.State.{State}
use Rattle.snd_inputs.specs.Inputs.{first_bad, inputs_in}
use Rattle.snd_inputs.specs.Rooms.{is_full}
use Rattle.snd_layout.specs.Params.{Parameters}
use Rattle.snd_layout.specs.Shape.{Shape}
use Rattle.snd_layout.specs.declared.kind.Kind.{Kind}
use Rattle.snd_edits.specs.Editing.{Editing}
use Rattle.snd_output.specs.Ends.{IfChanged}
use Rattle.snd_output.specs.Made.{made_file}
use Rattle.snd_output.specs.declared.stop.Stop.{Stop}
use Rattle.snd_tools.specs.Done.{Said, said_by}
use Rattle.snd_tools.specs.Shelves.{HasFiles, IsDone}
use Rattle.snd_tools.specs.declared.answer.Answer.{Answer}
use Rattle.snd_words.specs.declared.concat.Concatenation.{Concatenation}
use Rattle.snd_concat.specs.Concat.{all_frames, all_numbers, done_like, is_alike, made_if_good, shapes_of}

-- no name is the given one
abbrev pub AllApart : List ℕ → List (List ℕ) → Type 0
AllApart output names = All (λ n. bytes_eq n output ≡ false) names

-- files with these layouts may be put together into a new one of a kind with these parameters
pub record MayJoin (kind : Kind) (p : Parameters) (hs : List Shape) : Type 0 where
  pub alike : All (λ h. is_alike p h.params ≡ true) hs
  pub in_room : is_full kind p (all_frames hs) ≡ false

-- the bytes of what is made
abbrev pub bytes_made : Kind → Parameters → List Editing → List ℕ
bytes_made kind p es = made_file kind p [] (all_numbers p.codec es)

-- Where the shelf and the disk tell what they hold, and the files may be put together, that is made; on a disk, or under a name.
abbrev pub Makes : {S E R : Type 0} → (S → ShelfState) → (E → State) → List (List ℕ) → Kind → Parameters → S → E → E → Result Answer R → Type 0
Makes state disk_state names kind p shelf old new result =
    IfOk result (λ answer. (files : Files) (es : List Editing) (b : List ℕ) → TellsFiles state shelf files → Tells disk_state old b → inputs_in files names ≡ Ok es → MayJoin kind p (shapes_of es)
    → (said_by answer ≡ Said.made (all_frames (shapes_of es))) × Tells disk_state new (bytes_made kind p es))

abbrev pub MakesUnder : {S R : Type 0} → (S → ShelfState) → List (List ℕ) → List ℕ → Kind → Parameters → S → S → Result Answer R → Type 0
MakesUnder state names output kind p old new result =
    IfOk result (λ answer. (files : Files) (es : List Editing) → TellsFiles state old files → inputs_in files names ≡ Ok es → MayJoin kind p (shapes_of es)
    → (said_by answer ≡ Said.made (all_frames (shapes_of es))) × HasFiles state new (put files output (Some (bytes_made kind p es))))

-- what is to be done with files that may be put together is done
abbrev pub DoesGood : {S R : Type 0} → (S → ShelfState) → Concatenation → Kind → Parameters → S → S → Result Answer R → Type 0
DoesGood state concatenation kind p old new result =
    let names = concatenation.inputs in
    IfOk result (λ answer. (files : Files) (es : List Editing) → TellsFiles state old files → inputs_in files names ≡ Ok es → MayJoin kind p (shapes_of es)
    → IsDone state new answer (made_if_good names concatenation.output.now kind p es (first_bad es)) files)

-- no input is said to have changed where the shelf tells its files, and these are opened; or where they have no bad block, too
abbrev pub StayTold : {S T : Type 0} → (S → ShelfState) → List (List ℕ) → S → Result T Stop → Type 0
StayTold state names shelf result = IfChanged ((files : Files) (es : List Editing) → TellsFiles state shelf files → inputs_in files names ≡ Ok es → ⊥) result

abbrev pub StayGood : {S T : Type 0} → (S → ShelfState) → List (List ℕ) → S → Result T Stop → Type 0
StayGood state names shelf result =
    IfChanged ((files : Files) (es : List Editing) → TellsFiles state shelf files → inputs_in files names ≡ Ok es → first_bad es ≡ None → ⊥) result

-- what is to be done with files of these layouts is done
abbrev pub DoesLike : {S R : Type 0} → (S → ShelfState) → Concatenation → List Shape → S → S → Result Answer R → Type 0
DoesLike state concatenation hs old new result =
    let names = concatenation.inputs in
    IfOk result (λ answer. (files : Files) (es : List Editing) → TellsFiles state old files → inputs_in files names ≡ Ok es → shapes_of es ≡ hs
    → IsDone state new answer (done_like names concatenation.output.now es) files)

-- the name at a place among the inputs, with the output behind them
abbrev pub IsNamedAt : Concatenation → ℕ → List ℕ → Type 0
IsNamedAt concatenation at name =
    at ≤ length concatenation.inputs → name ≡ slice_index_or (concatenation.inputs ++ concatenation.output.now ∷ []) at []
