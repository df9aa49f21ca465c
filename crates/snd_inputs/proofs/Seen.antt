-- What is seen of a file that was handed out.
use Rattle.std.proofs.Common.{◌≡◌, ℕ, List, [], Option, Some, unwrap_or, Result, Ok, Err, false, refl, sym, ◌∙◌, ap, length, arith}
use Rattle.snd_blocks.specs.Sound.{frames_in}
use Rattle.snd_container.specs.Sound.{layout_of}
use Rattle.snd_disk.specs.declared.disk.Disk.{Ghosts}
use Rattle.snd_disk.specs.Shelf.{Files, ShelfState, Takes}
use Rattle.snd_disk.specs.State.{State}
use Rattle.snd_layout.specs.Shape.{Shape}
use Rattle.snd_layout.specs.declared.refusal.OpenRefusal.{OpenRefusal}
use Rattle.snd_lines.specs.declared.refusal.Refusal.{Refusal}
use Rattle.snd_lines.specs.declared.refusal.Refusal.TheVariants.{Open}
use Rattle.snd_edits.specs.Editing.{Editing, first_editing, opening_of}
use Rattle.snd_inputs.specs.Inputs.{input_as, input_in}
use Rattle.snd_edits.proofs.Public.{count_any, opening_ok, opening_refused}
use Rattle.snd_inputs.specs.Looking.{IsReadable, LiesWithin, seen_of}
use Rattle.snd_inputs.specs.Opening.{Holds}
use Rattle.snd_inputs.specs.declared.input.Input.{Input}

-- ---- on a disk

module _ (b : List ℕ) where
  pub refused_seen : (why : OpenRefusal) → layout_of b ≡ Err why → seen_of (input_as (opening_of b)) ≡ Err (Open why)
  refused_seen why is = ap (λ (r : Result Editing OpenRefusal). seen_of (input_as r)) (opening_refused b why is)

  -- what is opened is what tools read
  pub read_as : (h : Shape) → opening_of b ≡ Ok (first_editing b h) → input_as (opening_of b) ≡ Ok (first_editing b h)
  read_as h is = ap input_as is

  pub layout_seen : (h : Shape) → layout_of b ≡ Ok h → seen_of (input_as (opening_of b)) ≡ Ok h
  layout_seen h is = ap seen_of (read_as h (opening_ok b h is))

  -- a layout that is seen is what the file is opened as
  pub opened_as : (h : Shape) → Ok h ≡ seen_of (input_as (opening_of b)) → opening_of b ≡ Ok (first_editing b h)
  opened_as h is = by_layout (layout_of b) refl
    where
      by_layout : (r : Result Shape OpenRefusal) → layout_of b ≡ r → opening_of b ≡ Ok (first_editing b h)
      by_layout (Err why) found = absurd (let no : ◌≡◌ {A = Result Shape Refusal} (Ok h) (Err (Open why)) = is ∙ refused_seen why found in cc)
      by_layout (Ok s) found =
          let seen : ◌≡◌ {A = Result Shape Refusal} (Ok h) (Ok s) = is ∙ layout_seen s found in
          let same : s ≡ h = cc in
          opening_ok b s found ∙ ap (λ (x : Shape). Ok (first_editing b x)) same

  -- its frames are counted
  pub counted : (h : Shape) (size : ℕ) → IsReadable h → LiesWithin size h → size ≡ length b → h.frames ≡ length (frames_in b h)
  counted h size readable within long = count_any b h h.kind readable.rule.fits readable.good (omega (arith, within.frames, long))

-- ---- under a name

module _ (old mid : ShelfState) (files : Files) (name : List ℕ) (disk : State) (takes : Takes old mid name false disk) (told : old.files ≡ Some files) where
  -- the bytes of a disk that was handed out are the file's
  pub bytes_there : (b : List ℕ) × (files name ≡ Some b) × (disk.contents ≡ Some b)
  bytes_there =
      let there = takes.there files told refl in
      (there.0, there.1, takes.contents files told ∙ ap (λ (o : Option (List ℕ)). Some (unwrap_or o [])) there.1)

  pub seen_there : (seen : Result Shape Refusal) → ((b : List ℕ) → disk.contents ≡ Some b → seen ≡ seen_of (input_as (opening_of b))) → seen ≡ seen_of (input_in (files name))
  seen_there seen is = let there = bytes_there in is there.0 there.2 ∙ sym (ap (λ (o : Option (List ℕ)). seen_of (input_in o)) there.1)

  -- .. so what is opened there is held
  pub held_there : {D : Type 0} {d : Ghosts D} (state : D → State) (input : Input D d) → ((b : List ℕ) → disk.contents ≡ Some b → disk.size ≡ length b)
      → ((b : List ℕ) → disk.contents ≡ Some b → Ok input.layout ≡ seen_of (input_as (opening_of b))) → IsReadable input.layout → LiesWithin disk.size input.layout → (state input.disk).contents ≡ disk.contents
      → (b : List ℕ) × (files name ≡ Some b) × (opening_of b ≡ Ok (first_editing b input.layout)) × Holds state input (first_editing b input.layout)
  held_there state input sized seen readable within same =
      let there = bytes_there in (
        there.0,
        there.1,
        opened_as there.0 input.layout (seen there.0 there.2),
        record { bytes = same ∙ there.2; opened = refl; count = counted there.0 input.layout disk.size readable within (sized there.0 there.2) },
      )

-- what an input holds is what is seen under its name, and lies within its bytes
pub seen_open : (files : Files) (name b : List ℕ) (h : Shape) → files name ≡ Some b → opening_of b ≡ Ok (first_editing b h) → Ok h ≡ seen_of (input_in (files name))
seen_open files name b h is opens = sym (ap (λ (o : Option (List ℕ)). seen_of (input_in o)) is ∙ ap seen_of (read_as b h opens))
