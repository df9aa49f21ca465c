-- From what was found to what is answered.
use Rattle.std.proofs.Common.{◌≡◌, ℕ, List, Result, Ok, Err, IfOk, refl, sym, subst}
use Rattle.snd_disk.specs.Shelf.{Files, ShelfState}
use Rattle.snd_disk.specs.Shelves.{TellsFiles}
use Rattle.snd_lines.specs.declared.refusal.Refusal.{Refusal}
use Rattle.snd_output.specs.declared.stop.Stop.{Stop}
use Rattle.snd_tools.specs.Done.{Done, Said, files_after, said_of}
use Rattle.snd_tools.specs.Shelves.{Does, HasFiles, IsDone}
use Rattle.snd_tools.specs.declared.answer.Answer.{Answer}

pub does_so : {S : Type 0} (state : S → ShelfState) (todo : Files → Done) (old new : S) (r : Result Answer Stop) → IfOk r (λ answer. (files : Files) → TellsFiles state old files → IsDone state new answer (todo files) files)
    → Does state todo old new r
does_so state todo old new (Ok answer) is = is
does_so state todo old new (Err stop) is = tt

module _ {S : Type 0} (state : S → ShelfState) (new : S) (files : Files) where
  -- nothing that is known in two ways is done otherwise
  pub done_same : (answer : Answer) (todo todo' : Done) → todo' ≡ todo → IsDone state new answer todo files → IsDone state new answer todo' files
  done_same answer todo todo' is done = subst (λ (d : Done). IsDone state new answer d files) (sym is) done

  -- something was refused, and the files are the same
  pub refused_as : (name : List ℕ) (why : Refusal) (todo : Done) → HasFiles state new files → todo ≡ Done.refuses name why
      → (Said.refused name why ≡ said_of todo) × HasFiles state new (files_after todo files)
  refused_as name why todo has is = subst (λ (d : Done). (Said.refused name why ≡ said_of d) × HasFiles state new (files_after d files)) (sym is) (refl, has)
