-- Inputs that are opened one after the other, each beside those before it. It is said for the proofs alone.
use Rattle.std.specs.Prelude.{◌≡◌, ℕ, ◌<◌, false, List, [], ◌∷◌, ◌++◌, Result, Ok, Err, Vec, drop, length}
use Rattle.std.specs.List.{list_any}
use Rattle.std.specs.Str.{bytes_eq}
use Rattle.std.specs.declared.alloc.Global.{Global}
use Rattle.snd_disk.specs.declared.disk.Disk.{Ghosts}
use Rattle.snd_disk.specs.Shelf.{Files, ShelfState}
use Rattle.snd_disk.specs.State.{State}
use Rattle.snd_inputs.specs.Inputs.{inputs_in}
use Rattle.snd_inputs.specs.declared.input.Input.{Input}
use Rattle.snd_lines.specs.declared.refusal.Refusal.{Refusal}
use Rattle.snd_edits.specs.Editing.{Editing}
use Rattle.snd_tools.specs.Done.{Done}
use Rattle.snd_tools.specs.declared.answer.Answer.{Answer}
use Rattle.snd_words.specs.Repeats.{is_repeated_at}
use Rattle.snd_words.specs.declared.interleave.Interleaving.{Interleaving}
use Rattle.snd_interleave.specs.Channels.{DoesWith}
use Rattle.snd_interleave.specs.Interleave.{done_beside, done_with}

-- no name is that of an earlier one; the output's is the last
abbrev pub AreApart : List (List ℕ) → List ℕ → Type 0
AreApart inputs output = (at : ℕ) → at < length (inputs ++ output ∷ []) → is_repeated_at (inputs ++ output ∷ []) at ≡ false

-- these names are taken out, and no others
abbrev pub AreOut : List (List ℕ) → ShelfState → Type 0
AreOut names shelf = (n : List ℕ) → shelf.out n ≡ list_any (bytes_eq n) names

-- files behind those that are open already
abbrev pub opened_behind : List Editing → Result (List Editing) (List ℕ × Refusal) → Result (List Editing) (List ℕ × Refusal)
opened_behind es (Err refused) = Err refused
opened_behind es (Ok others) = Ok (es ++ others)

-- what is to be done where some inputs are open, and those of the other names are not
abbrev pub done_rest : List (List ℕ) → List ℕ → Files → List Editing → Done
done_rest inputs output files es = done_with inputs output (opened_behind es (inputs_in files (drop (length es) inputs)))

-- .. or where all are; and that is answered and done
abbrev pub DoesAll : {D S E : Type 0} {d : Ghosts D}
    → (D → State) → (S → ShelfState) → Interleaving → Vec (Input D d) Global → S → S → Result Answer E → Type 0
DoesAll state shelf_state interleaving inputs old new result =
    DoesWith state shelf_state (done_rest interleaving.inputs interleaving.output.now) inputs.items old new result

abbrev pub DoesBeside : {D S E : Type 0} {d : Ghosts D}
    → (D → State) → (S → ShelfState) → Interleaving → List (Input D d) → S → S → Result Answer E → Type 0
DoesBeside state shelf_state interleaving inputs old new result =
    DoesWith state shelf_state (λ files es. done_beside interleaving.inputs interleaving.output.now es) inputs old new result
