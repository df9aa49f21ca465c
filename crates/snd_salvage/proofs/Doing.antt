-- From what was found to what is done.
use Rattle.std.proofs.Common.{◌≡◌, ◌∙◌, ℕ, ◌+◌, ◌*◌, ◌-◌, ◌/◌, ◌≤◌, ℤ, List, [], Bool, cond, true, false, inl, inr, Option, Some, Ok, Err, Result, drop, refl, sym, ap, subst, arith}
use Rattle.std.proofs.lemmas.Bool.{cases_Bool}
use Rattle.std.specs.Str.{bytes_eq}
use Rattle.snd_disk.specs.Shelf.{Files, ShelfState, put}
use Rattle.snd_disk.specs.State.{Adds, AtMost}
use Rattle.snd_inputs.specs.Rooms.{is_full}
use Rattle.snd_blocks.specs.Sound.{frames_in}
use Rattle.snd_inputs.specs.Copying.{bytes_to_copy}
use Rattle.snd_layout.specs.Blocks.{block_align, block_frames, is_adpcm}
use Rattle.snd_layout.specs.Params.{Parameters}
use Rattle.snd_layout.specs.Shape.{Shape, end}
use Rattle.snd_output.specs.Widths.{joined}
use Rattle.snd_salvage.proofs.Frames.{frames_are, numbers_found}
use Rattle.snd_search.proofs.Public.{plain_bytes}
use Rattle.snd_search.specs.Sought.{IsSought, counted, sought_in}
use Rattle.snd_layout.specs.declared.kind.Kind.TheVariants.{Wave}
use Rattle.snd_layout.specs.declared.refusal.OpenRefusal.{OpenRefusal}
use Rattle.snd_lines.specs.declared.refusal.Refusal.TheVariants.{ContainerFull, SameName}
use Rattle.snd_output.specs.Made.{made_file}
use Rattle.snd_search.specs.Search.{Found}
use Rattle.snd_tools.proofs.Public.{MakesOnly}
use Rattle.snd_tools.specs.Done.{Done, Said, files_after, said_of}
use Rattle.snd_output.specs.Ends.{CountsOneOf}
use Rattle.snd_output.specs.declared.stop.Stop.{Stop}
use Rattle.snd_output.specs.declared.stop.Stop.TheVariants.{Changed, Fault, Memory}
use Rattle.snd_tools.specs.Shelves.{CountsOneOf as CountsOne, HasFiles}
use Rattle.snd_salvage.specs.Salvage.{done_with, made_from, made_with, numbers_of, salvaged}

module _ {S : Type 0} (state : S → ShelfState) (new : S) (files : Files) (output : List ℕ) (p : Parameters) (n : ℕ) (xs : List ℤ) where
  -- the output was refused, or made
  pub full_refused : is_full Wave p n ≡ true → HasFiles state new files
      → (Said.refused output ContainerFull ≡ said_of (made_with output p n xs)) × HasFiles state new (files_after (made_with output p n xs) files)
  full_refused full has =
      let todo : Bool → Done = λ t. cond t (Done.refuses output ContainerFull) (Done.makes output (made_file Wave p [] xs) n) in
      let P : Bool → Type 0 = λ t. (Said.refused output ContainerFull ≡ said_of (todo t)) × HasFiles state new (files_after (todo t) files) in
      subst P (sym full) (refl, has)

  pub room_made : (frames : ℕ) → frames ≡ n → is_full Wave p n ≡ false → HasFiles state new (put files output (Some (made_file Wave p [] xs)))
      → (Said.made frames ≡ said_of (made_with output p n xs)) × HasFiles state new (files_after (made_with output p n xs) files)
  room_made frames same room has =
      let todo : Bool → Done = λ t. cond t (Done.refuses output ContainerFull) (Done.makes output (made_file Wave p [] xs) n) in
      let P : Bool → Type 0 = λ t. (Said.made frames ≡ said_of (todo t)) × HasFiles state new (files_after (todo t) files) in
      subst P (sym room) (ap Said.made same, has)

-- the output alone is made
makes_with : (output : List ℕ) (p : Parameters) (n : ℕ) (xs : List ℤ) → MakesOnly output (made_with output p n xs)
makes_with output p n xs =
    let P : Bool → Type 0 = λ t. MakesOnly output (cond t (Done.refuses output ContainerFull) (Done.makes output (made_file Wave p [] xs) n)) in
    elim (cases_Bool (is_full Wave p n)) [
      | inl full ↦ subst P (sym full) tt
      | inr room ↦ subst P (sym room) refl
    ]

pub makes_from : (input output : List ℕ) (r : Result Found OpenRefusal) → MakesOnly output (made_from input output r)
makes_from input output (Err why) = tt
makes_from input output (Ok sound) = makes_with output sound.params _ _

-- where the names differ
pub salvaged_is : (input output : List ℕ) (files : Files) (file : Option (List ℕ)) → bytes_eq input output ≡ false → files input ≡ file
    → salvaged input output files ≡ done_with input output file
salvaged_is input output files file apart there =
    ap (λ (t : Bool). cond t (Done.refuses output SameName) (done_with input output (files input))) apart ∙ ap (done_with input output) there

-- what is found is made
pub made_found : (input output b : List ℕ) (h : Shape) → is_adpcm h.params.codec ≡ false → 1 ≤ h.params.channels → IsSought (counted b) h
    → made_from input output (sought_in (counted b)) ≡ made_with output h.params h.frames (joined (frames_in b h))
made_found input output b h plain some found =
    ap (made_from input output) found.found
    ∙ ap (λ (n : ℕ). made_with output h.params n (numbers_of h.params (drop h.start (counted b)))) (sym (frames_are b h plain some found.within found.is))
    ∙ ap (λ (xs : List ℤ). made_with output h.params h.frames xs) (sym (numbers_found b h plain some found.within found.is))

-- what is asked of the disk where that was sought, and to copy it
pub asked_found : (h : Shape) (size a b c : ℕ) → is_adpcm h.params.codec ≡ false → end h h.frames ≤ size → AtMost a (18 * h.start + 2 * size + 16384) b
    → AtMost b (0 + bytes_to_copy h.params h.frames) c → AtMost a (20 * size + 16384) c
asked_found h size a b c plain held sought copies =
    let align = block_align h.params.channels h.params.codec in
    let each = 16384 / h.params.channels in
    let copied : bytes_to_copy h.params h.frames ≡ h.frames * align =
    ap (λ (t : Bool). cond t ((h.frames / block_frames h.params.codec + 2 * (h.frames / each + 2)) * align) (h.frames * align)) plain in
    let most : bytes_to_copy h.params h.frames ≤ size - h.start = omega (arith, copied, held, plain_bytes h.params h.frames plain) in
    sums h.start (bytes_to_copy h.params h.frames) (let e : h.start ≤ size = omega (arith, held) in e) most sought copies
  where
    sums : (start n : ℕ) → start ≤ size → n ≤ size - start → AtMost a (18 * start + 2 * size + 16384) b → AtMost b (0 + n) c → AtMost a (20 * size + 16384) c
    sums start n le most sought copies = record {
      later = omega (arith, sought.later, copies.later);
      most = omega (arith, le, most, sought.most, copies.most);
    }

-- what is asked of a disk is counted by the shelf that has it back
pub asked_back : (size long old mid new from to : ℕ) → size ≡ long → from ≡ 0 → mid ≡ old → AtMost from (20 * size + 16384) to → Adds mid to new
    → AtMost old (20 * long + 16384) new
asked_back size long old mid new from to same fresh was asks adds = record {
  later = omega (arith, was, adds.later);
  most = omega (arith, same, fresh, was, asks.most, adds.most);
}

-- a count of one disk and one of a shelf, in the words of those that have it back
pub counts_same : {T : Type 0} (r : Result T Stop) (a b c d : ℕ) → CountsOneOf a b c d r → CountsOne a b c d r
counts_same (Ok x) a b c d counts = counts
counts_same (Err Fault) a b c d counts = counts
counts_same (Err Memory) a b c d counts = counts
counts_same (Err Changed) a b c d counts = counts
