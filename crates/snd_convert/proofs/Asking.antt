-- What is asked to convert a file, by the bytes that it has.
use Rattle.std.proofs.Common.{◌≡◌, ◌∙◌, ap, subst, refl, ℕ, ◌+◌, ◌*◌, ◌≤◌, true, List, [], ◌∷◌, Option, None, Result, Ok, Err, Some, inl, inr, length, arith}
use Rattle.std.proofs.lemmas.Bool.{and_parts, cases_Bool}
use Rattle.snd_carry.proofs.Public.{carried_fit}
use Rattle.snd_carry.specs.Carried.{body_bytes, carried_pieces}
use Rattle.snd_container.specs.Sound.{layout_of}
use Rattle.snd_disk.specs.Device.{Tells}
use Rattle.snd_disk.specs.Shelf.{Files, Gives}
use Rattle.snd_disk.specs.State.{Adds, AtMost}
use Rattle.snd_disk.specs.declared.disk.Disk.{Ghosts}
use Rattle.snd_disk.specs.declared.shelf.Shelf.{Ghosts as ShelfMeaning}
use Rattle.snd_inputs.proofs.Public.{bytes_within, whole_within}
use Rattle.snd_inputs.specs.Asking.{AsksForFiles, size_of, sizes_of}
use Rattle.snd_inputs.specs.Copying.{bytes_checked, bytes_to_copy}
use Rattle.snd_inputs.specs.Opening.{IsOpen}
use Rattle.snd_inputs.specs.declared.input.Input.{Input}
use Rattle.snd_layout.specs.Fit.{fit_refusal}
use Rattle.snd_layout.specs.Params.{AreParams}
use Rattle.snd_layout.specs.Shape.{Shape, end}
use Rattle.snd_layout.specs.declared.refusal.OpenRefusal.{OpenRefusal}
use Rattle.snd_edits.specs.Editing.{Editing, first_editing, opening_as, opening_of}
use Rattle.snd_layout.specs.Kinds.{holds_meta}
use Rattle.snd_convert.specs.Convert.{carries}
use Rattle.snd_convert.specs.Making.{bodies_in}
use Rattle.snd_convert.specs.Plan.{Planned}

-- where the chunks go, they are those that may
pub bodies_from : (plan : Planned) (h : Shape) → carries plan.kind h.kind ≡ true → body_bytes (carried_pieces h.pieces) ≤ bodies_in h
bodies_from plan h both =
    let meta : holds_meta h.kind ≡ true = (and_parts (holds_meta plan.kind) (holds_meta h.kind) both).1 in
    let is : bodies_in h ≡ body_bytes (carried_pieces h.pieces) = rw meta refl in
    omega (arith, is)

-- a file that is opened has the layout in which it begins
module _ (b : List ℕ) (h : Shape) where
  by_layout : (r : Result Shape OpenRefusal) → layout_of b ≡ r → opening_as b r ≡ Ok (first_editing b h) → layout_of b ≡ Ok h
  by_layout (Err why) laid is = absurd (cc)
  by_layout (Ok s) laid is =
      let first : first_editing b s ≡ first_editing b h = cc in
      laid ∙ ap (λ (e : Editing). Ok e.shape) first

  pub laid_as : opening_of b ≡ Ok (first_editing b h) → layout_of b ≡ Ok h
  unfolding opening_of
  laid_as is = by_layout (layout_of b) refl is

  pub bodies_within : layout_of b ≡ Ok h → bodies_in h ≤ length b
  bodies_within laid = elim (cases_Bool (holds_meta h.kind)) [
    | inl meta ↦
        let is : bodies_in h ≡ body_bytes (carried_pieces h.pieces) = rw meta refl in
        omega (arith, is, carried_fit b h laid meta)
    | inr other ↦
        let is : bodies_in h ≡ 0 = rw other refl in
        omega (arith, is)
  ]

  -- so that no more is asked of it, also to open it, than twice what it takes to read it, and 49152
  pub asked_whole : (files : Files) (name : List ℕ) (old opened copied mid new : ℕ) → files name ≡ Some b → opening_of b ≡ Ok (first_editing b h) → fit_refusal h.kind h.params ≡ None → AreParams h.params
      → end h h.frames ≤ length b → opened ≤ 16384 → AtMost opened (bytes_checked h + (bodies_in h + bytes_to_copy h.params h.frames)) copied → mid ≡ old → Adds mid copied new
      → AtMost old (2 * sizes_of files (name ∷ []) + 49152 * 1) new
  asked_whole files name old opened copied mid new there is fits good within first copies same adds =
      let size : sizes_of files (name ∷ []) ≡ size_of (Some b) + 0 = ap (λ (o : Option (List ℕ)). size_of o + 0) there in
      let most = most_of (bytes_checked h) (bodies_in h) (bytes_to_copy h.params h.frames) (length b) (size_of (Some b)) (whole_within b h fits good within is) (bodies_within (laid_as is)) (bytes_within b h fits good within is) in
      asked_by (sizes_of files (name ∷ [])) (size_of (Some b)) (bytes_checked h + (bodies_in h + bytes_to_copy h.params h.frames)) size most copies
    where
      most_of : (x y z n m : ℕ) → x + z ≤ m → y ≤ n → n ≤ m → x + (y + z) ≤ 2 * m
      most_of x y z n m whole bodies bytes = omega (arith, whole, bodies, bytes)

      asked_by : (sizes m all : ℕ) → sizes ≡ m + 0 → all ≤ 2 * m → AtMost opened all copied → AtMost old (2 * sizes + 49152 * 1) new
      asked_by sizes m all size most copying = record { later = omega (arith, same, adds.later); most = omega (arith, same, adds.most, copying.most, first, most, size) }

-- .. of the file of a name that is open, and whose disk is given back
module _ {S D : Type 0} (s : ShelfMeaning S D) (d : Ghosts D) (old mid mid' new : S) (input : Input D d) (from to given : D) (name : List ℕ) (opens : IsOpen s d name old mid input)
    (from_is : from ≡ input.disk) (to_is : given ≡ to) (gives : Gives (s.state mid') (s.state new) name (d.state given)) (unasked : (s.state mid').asked ≡ (s.state mid).asked) where
  pub asked_held : ((b : List ℕ) → Tells d.state input.disk b → (d.state input.disk).size ≡ length b)
      → AtMost (d.state from).asked (bytes_checked input.layout + (bodies_in input.layout + bytes_to_copy input.layout.params input.layout.frames)) (d.state to).asked → AsksForFiles s.state (name ∷ []) old new
  asked_held told_size copied files told =
      let found = opens.opened files told in
      let size : (d.state input.disk).size ≡ length found.0 = told_size found.0 found.3.bytes in
      let first : (d.state from).asked ≤ 16384 = omega (arith, ap (λ (x : D). (d.state x).asked) from_is, opens.asked) in
      let adds : Adds (s.state mid').asked (d.state to).asked (s.state new).asked = subst (λ (y : D). Adds (s.state mid').asked (d.state y).asked (s.state new).asked) to_is gives.asked in
      let within : end input.layout input.layout.frames ≤ length found.0 = omega (arith, input.held, size) in
      asked_whole found.0 input.layout files name (s.state old).asked (d.state from).asked (d.state to).asked (s.state mid').asked (s.state new).asked found.1 found.2 input.fits input.good within first copied
      (unasked ∙ opens.out.bytes.asked) adds
