-- What `gen` does to a shelf, and the parts of it to a disk.
use Rattle.std.specs.Prelude.{◌≡◌, ℕ, ◌*◌, ◌^◌, ◌<◌, ◌≤◌, ℤ, List, All, Some, Result, Ok, Err, length}
use Rattle.snd_disk.specs.Device.{Tells}
use Rattle.snd_disk.specs.Shelf.{ShelfState, Files, put}
use Rattle.snd_disk.specs.Shelves.{TellsFiles}
use Rattle.snd_disk.specs.State.{State}
use Rattle.snd_output.specs.declared.stop.Stop.{Stop}
use Rattle.snd_pcm.specs.Width.{HasWidth}
use Rattle.snd_tools.specs.Shelves.{HasFiles}
use Rattle.snd_words.specs.declared.generate.Generation.{Generation}
use Rattle.snd_generate.specs.declared.generating.Summary.{Summary}
use Rattle.snd_generate.specs.Edited.{edited, file_of, generated, summary_of}
use Rattle.snd_generate.specs.Numbers.{numbers_from}

-- the words of `gen` ask for no other
pub record IsAsked (g : Generation) : Type 0 where
  pub seed : g.seed < 2 ^ 32
  pub some : 1 ≤ g.frames
  pub most : g.frames ≤ 10000000

-- Where the shelf tells its files, the summary is that of the numbers that are made, and the shelf has the file of these.
abbrev pub Generates : {S : Type 0} → (S → ShelfState) → Generation → S → S → Result Summary Stop → Type 0
Generates state g old new (Ok summary) = (files : Files) → TellsFiles state old files →
    let xs = generated g.seed g.frames in
    (summary ≡ summary_of xs) × HasFiles state new (put files g.name.now (Some (file_of xs)))
Generates state g old new (Err stop) = Unit {0}

-- ---- the parts, over a disk that tells what it holds

-- numbers of two channels for so many frames
pub record AreNumbers (n : ℕ) (xs : List ℤ) : Type 0 where
  pub count : length xs ≡ 2 * n
  pub some : 1 ≤ n
  pub most : n ≤ 10000000
  pub in_range : All (HasWidth 16) xs

-- those that are generated, before they are edited
abbrev pub numbers_of : Generation → List ℤ
numbers_of g = numbers_from (2 * g.frames) g.seed

abbrev pub Makes : {D : Type 0} → (D → State) → Generation → D → D → Type 0
Makes state g old new = (b : List ℕ) → Tells state old b → Tells state new (file_of (numbers_of g))

abbrev pub Edits : {D : Type 0} → (D → State) → ℕ → D → D → Type 0
Edits state n old new = (xs : List ℤ) → AreNumbers n xs → Tells state old (file_of xs) → Tells state new (file_of (edited n xs))

abbrev pub SumsUp : {D : Type 0} → (D → State) → D → Summary → Type 0
SumsUp state disk summary = (n : ℕ) (xs : List ℤ) → AreNumbers n xs → Tells state disk (file_of xs) → summary ≡ summary_of xs

-- .. one after the other
abbrev pub GeneratesOn : {D : Type 0} → (D → State) → Generation → D → D → Summary → Type 0
GeneratesOn state g old new summary = (b : List ℕ) → Tells state old b →
    let xs = generated g.seed g.frames in (summary ≡ summary_of xs) × Tells state new (file_of xs)
