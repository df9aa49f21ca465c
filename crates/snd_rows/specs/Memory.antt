-- A run over one file in memory.
use Rattle.std.specs.Prelude.{◌≡◌, ℕ, List, length, Option, Some, None, Ok}
use Rattle.snd_disk.specs.Shelf.{Files, put}
use Rattle.snd_edits.specs.Editing.{Editing}
use Rattle.snd_edits.specs.Safe.{IsFit, IsSafe}
use Rattle.snd_edits.specs.Updating.{updating_of}
use Rattle.snd_memory.specs.MemoryShelf.{shelf_between, shelf_state}
use Rattle.snd_rules.specs.Desk.{stored}
use Rattle.snd_rules.specs.Pinned.{auto_steps}
use Rattle.snd_script.specs.Trail.{Trail, reached}
use Rattle.snd_taps.specs.declared.tap.TapKind.{TapKind}
use Rattle.snd_tools.specs.Shelves.{HasFiles}
use Rattle.snd_app.specs.Printed.{Outcome}
use Rattle.snd_rows.specs.declared.memory.Printed.{Printed}

abbrev pub one_file : List ℕ → List ℕ → Files
one_file name bytes = put (λ n. None) name (Some bytes)

-- what was printed is the outcome, and the shelf has these files; no call has failed
pub record IsPrinted (o : Outcome) (after : Files) (p : Printed) : Type 0 where
  pub status : p.status ≡ o.status
  pub out : p.out.items ≡ o.out
  pub err : p.err.items ≡ o.err
  pub files : HasFiles shelf_state p.shelf after
  pub faults : (shelf_state p.shelf).faults ≡ 0

-- Where the file is the one that is updated automatically from the start, and is fit then: at each moment of the run a crash
-- leaves of it what is safe between two states of the script that follow each other, in their order, of those that the
-- answers show.
abbrev pub HasTrail : List TapKind → Option (List ℕ) → List ℕ → List ℕ → List ℕ → Printed → Type 0
HasTrail kinds named name bytes text p =
    named ≡ Some name → (e : Editing) → updating_of bytes ≡ Ok e → IsFit e →
    Trail IsSafe (shelf_between p.shelf name) 0 ((shelf_state p.shelf).clock name)
    (reached (length p.out.items) e (auto_steps (stored (one_file name bytes) kinds) name text))
