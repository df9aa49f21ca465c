-- What is asked of a file that is copied with changed texts, by the bytes that it has.
use Rattle.std.proofs.Common.{◌≡◌, ◌∙◌, ap, subst, refl, ℕ, ◌+◌, ◌*◌, ◌≤◌, List, [], ◌∷◌, Option, Result, Ok, Err, Some, inl, inr, length, slice_get, take, arith}
use Rattle.std.proofs.lemmas.Bool.{cases_Bool}
use Rattle.std.proofs.lemmas.List.Sums.{sum_by_more}
use Rattle.std.proofs.lemmas.Option.{get_or_from_slice_get, slice_get_within}
use Rattle.snd_carry.proofs.Public.{bodies_fit}
use Rattle.snd_carry.specs.Carried.{body_bytes}
use Rattle.snd_container.specs.Sound.{layout_of}
use Rattle.snd_disk.specs.Device.{Tells}
use Rattle.snd_disk.specs.Shelf.{Gives}
use Rattle.snd_disk.specs.State.{Adds, AtMost}
use Rattle.snd_disk.specs.declared.disk.Disk.{Ghosts}
use Rattle.snd_disk.specs.declared.shelf.Shelf.{Ghosts as ShelfMeaning}
use Rattle.snd_inputs.proofs.Public.{bytes_within, whole_within}
use Rattle.snd_inputs.specs.Asking.{AsksForEach, size_of, sizes_of}
use Rattle.snd_inputs.specs.Copying.{bytes_checked, bytes_to_copy}
use Rattle.snd_inputs.specs.Opening.{IsOpen}
use Rattle.snd_inputs.specs.declared.input.Input.{Input}
use Rattle.snd_layout.specs.Shape.{Shape, end}
use Rattle.snd_layout.specs.declared.piece.Piece.{Piece}
use Rattle.snd_layout.specs.declared.refusal.OpenRefusal.{OpenRefusal}
use Rattle.snd_edits.specs.Editing.{Editing, first_editing, opening_as, opening_of}
use Rattle.snd_edits.specs.Known.{Known}
use Rattle.snd_layout.specs.Kinds.{holds_meta}
use Rattle.snd_metadata.specs.Asking.{bodies_in}
use Rattle.snd_metadata.specs.Planned.{IsReady, bytes_planned, bytes_read, put_in}
use Rattle.snd_metadata.specs.declared.chunks.PlannedChunk.{PlannedChunk}
use Rattle.snd_metadata.proofs.Lists.{sum_put}

-- the bodies of pieces up to one, and of that one
pub bodies_next : (pieces : List Piece) (place : ℕ) (piece : Piece) → slice_get pieces place ≡ Some piece → body_bytes (take (place + 1) pieces) ≡ body_bytes (take place pieces) + piece.len
bodies_next pieces place piece there =
    sum_by_more (λ (p : Piece). p.len) pieces place piece (slice_get_within pieces place piece there)
    ∙ ap (λ (p : Piece). body_bytes (take place pieces) + p.len) (get_or_from_slice_get pieces place piece piece there)

-- a chunk whose body is given has no more read
pub given_no_more : (old new : List PlannedChunk) (at : ℕ) (chunk : PlannedChunk) → new ≡ put_in at chunk old → bytes_read chunk ≡ 0 → bytes_planned new ≤ bytes_planned old
given_no_more old new at chunk is none = omega (arith, ap bytes_planned is, sum_put bytes_read at chunk old, none)

-- a plan reads no more than the bodies of the file
plan_within : (h : Shape) (plan : List PlannedChunk) → IsReady h plan → bytes_planned plan ≤ bodies_in h
plan_within h plan ready =
    let is : bodies_in h ≡ body_bytes h.pieces = rw ready.meta refl in
    omega (arith, is, ready.plan_is.once)

-- a file was looked at, and another is made of it by a plan
pub asks_made : (k k' : Known) (plan : List PlannedChunk) (a b c : ℕ) → k' ≡ k → IsReady k.shape plan → AtMost a 148480 b
    → AtMost b (bytes_planned plan + bytes_to_copy k'.shape.params k'.shape.frames) c → AtMost a (148480 + bodies_in k.shape + bytes_to_copy k.shape.params k.shape.frames) c
asks_made k k' plan a b c same ready looked made =
    let frames : bytes_to_copy k'.shape.params k'.shape.frames ≡ bytes_to_copy k.shape.params k.shape.frames = ap (λ (x : Known). bytes_to_copy x.shape.params x.shape.frames) same in
    summed (bytes_planned plan) (bodies_in k.shape) (bytes_to_copy k'.shape.params k'.shape.frames) (bytes_to_copy k.shape.params k.shape.frames) (plan_within k.shape plan ready) frames made
  where
    summed : (x y z z' : ℕ) → x ≤ y → z ≡ z' → AtMost b (x + z) c → AtMost a (148480 + y + z') c
    summed x y z z' plan frames made = record { later = omega (arith, looked.later, made.later); most = omega (arith, looked.most, made.most, plan, frames) }

-- a file that is opened has the layout in which it begins, and holds the bodies of its chunks
module _ (b : List ℕ) (h : Shape) where
  by_layout : (r : Result Shape OpenRefusal) → layout_of b ≡ r → opening_as b r ≡ Ok (first_editing b h) → layout_of b ≡ Ok h
  by_layout (Err why) laid is = absurd (cc)
  by_layout (Ok s) laid is =
      let first : first_editing b s ≡ first_editing b h = cc in
      laid ∙ ap (λ (e : Editing). Ok e.shape) first

  laid_as : opening_of b ≡ Ok (first_editing b h) → layout_of b ≡ Ok h
  unfolding opening_of
  laid_as is = by_layout (layout_of b) refl is

  bodies_within : layout_of b ≡ Ok h → bodies_in h ≤ length b
  bodies_within laid = elim (cases_Bool (holds_meta h.kind)) [
    | inl meta ↦
        let is : bodies_in h ≡ body_bytes h.pieces = rw meta refl in
        omega (arith, is, bodies_fit b h laid meta)
    | inr other ↦
        let is : bodies_in h ≡ 0 = rw other refl in
        omega (arith, is)
  ]

-- .. the file of a name that is open, and whose disk is given back
module _ {S D : Type 0} (s : ShelfMeaning S D) (d : Ghosts D) (old mid mid' new : S) (input : Input D d) (from to given : D) (name : List ℕ) (opens : IsOpen s d name old mid input)
    (from_is : from ≡ input.disk) (to_is : given ≡ to) (gives : Gives (s.state mid') (s.state new) name (d.state given)) (unasked : (s.state mid').asked ≡ (s.state mid).asked) where
  pub asks_held : ((b : List ℕ) → Tells d.state input.disk b → (d.state input.disk).size ≡ length b)
      → AtMost (d.state from).asked (148480 + bodies_in input.layout + bytes_to_copy input.layout.params input.layout.frames) (d.state to).asked → AsksForEach 2 164864 s.state (name ∷ []) old new
  asks_held told_size copied files told =
      let found = opens.opened files told in
      let h = input.layout in
      let size : (d.state input.disk).size ≡ length found.0 = told_size found.0 found.3.bytes in
      let first : (d.state from).asked ≤ 16384 = omega (arith, ap (λ (x : D). (d.state x).asked) from_is, opens.asked) in
      let adds : Adds (s.state mid').asked (d.state to).asked (s.state new).asked = subst (λ (y : D). Adds (s.state mid').asked (d.state y).asked (s.state new).asked) to_is gives.asked in
      let within : end h h.frames ≤ length found.0 = omega (arith, input.held, size) in
      let bodies : bodies_in h ≤ length found.0 = bodies_within found.0 h (laid_as found.0 h found.2) in
      let sizes : sizes_of files (name ∷ []) ≡ size_of (Some found.0) + 0 = ap (λ (o : Option (List ℕ)). size_of o + 0) found.1 in
      summed (sizes_of files (name ∷ [])) (size_of (Some found.0)) (length found.0) (bodies_in h) (bytes_checked h) (bytes_to_copy h.params h.frames) sizes
      (bytes_within found.0 h input.fits input.good within found.2) bodies (whole_within found.0 h input.fits input.good within found.2) first adds copied opens.out.bytes.asked
    where
      summed : (sizes m n x y z : ℕ) → sizes ≡ m + 0 → n ≤ m → x ≤ n → y + z ≤ m → (d.state from).asked ≤ 16384 → Adds (s.state mid').asked (d.state to).asked (s.state new).asked
          → AtMost (d.state from).asked (148480 + x + z) (d.state to).asked → (s.state mid).asked ≡ (s.state old).asked → AtMost (s.state old).asked (2 * sizes + 164864 * 1) (s.state new).asked
      summed sizes m n x y z is bytes bodies whole first adds copying same =
          record { later = omega (arith, unasked, same, adds.later); most = omega (arith, unasked, same, adds.most, copying.most, first, is, bytes, bodies, whole) }
