-- What is asked of the file that is read.
use Rattle.std.proofs.Common.{◌≡◌, ◌∙◌, ap, sym, subst, ℕ, ◌+◌, ◌-◌, ◌*◌, ◌/◌, ◌<◌, ◌≤◌, List, [], ◌∷◌, Option, None, Some, length, min, false, refl, arith}
use Rattle.snd_disk.specs.Device.{Tells}
use Rattle.snd_disk.specs.Shelf.{Gives}
use Rattle.snd_disk.specs.State.{Adds, AtMost}
use Rattle.snd_disk.specs.declared.disk.Disk.{Ghosts}
use Rattle.snd_disk.specs.declared.shelf.Shelf.{Ghosts as ShelfMeaning}
use Rattle.snd_inputs.proofs.Public.{whole_within}
use Rattle.snd_inputs.specs.Asking.{AsksForEach, size_of, sizes_of}
use Rattle.snd_inputs.specs.Copying.{bytes_checked, bytes_to_copy}
use Rattle.snd_inputs.specs.Opening.{IsOpen}
use Rattle.snd_inputs.specs.declared.input.Input.{Input}
use Rattle.snd_layout.specs.Shape.{Shape, end}
use Rattle.snd_edits.specs.Known.{Known}
use Rattle.snd_edits.specs.Reading.{bytes_to_read}
use Rattle.snd_output.specs.Appended.{bytes_by_calls}
use Rattle.snd_output.proofs.Public.{asked_all, asked_before, asked_by, asked_none, asked_on}

-- a file of a layout that is read from its first frame on
abbrev read_first : Shape → Known
read_first h = record { shape = h; place = 0; write_place = 0; automatic = false; written = false; broken = None }

module _ (h : Shape) (each : ℕ) where
  -- before the first frame, after some more, and after all
  pub asks_first : (a : ℕ) → AtMost a (asked_by h.params each 0 (h.frames - 0) 1) a
  asks_first a = asked_none h.params each 0 (h.frames - 0) 1 a

  pub asks_next : (place count a b c : ℕ) → 1 ≤ each → place < h.frames → count ≡ min each (h.frames - place)
      → AtMost a (asked_by h.params each place (h.frames - place) 1) b → AtMost b (bytes_to_read h.params count) c → AtMost a (asked_by h.params each (place + count) (h.frames - (place + count)) 1) c
  asks_next place count a b c some before is first asked =
      let left = h.frames - place in
      let rest : left - count ≡ h.frames - (place + count) = omega arith in
      let one : 1 ≤ count = omega (arith, some, before, is) in
      let more = asked_on (read_first h) h.params each place left count (place + count) a b c refl some (λ blocks. is) refl first asked in
      asked_before h.params each (place + count) (h.frames - (place + count)) count a c one
      (subst (λ (n : ℕ). AtMost a (asked_by h.params each (place + count) n count) c) rest more)

  pub asks_all : (place left count a b : ℕ) → place ≤ h.frames → AtMost a (asked_by h.params each place left count) b → each ≡ 16384 / h.params.channels → AtMost a (bytes_to_copy h.params h.frames) b
  asks_all place left count a b within asked is =
      subst (λ (n : ℕ). AtMost a (bytes_by_calls h.params n h.frames) b) is (asked_all h.params each h.frames place left count a b within asked)

-- .. the file of a name that is open, and whose disk is given back
module _ {S D : Type 0} (s : ShelfMeaning S D) (d : Ghosts D) (old mid mid' new : S) (input : Input D d) (from to given : D) (name : List ℕ) (opens : IsOpen s d name old mid input)
    (from_is : from ≡ input.disk) (to_is : given ≡ to) (gives : Gives (s.state mid') (s.state new) name (d.state given)) (unasked : (s.state mid').asked ≡ (s.state mid).asked) where
  pub asks_held : ((b : List ℕ) → Tells d.state input.disk b → (d.state input.disk).size ≡ length b)
      → AtMost (d.state from).asked (bytes_checked input.layout + bytes_to_copy input.layout.params input.layout.frames) (d.state to).asked → AsksForEach 1 16384 s.state (name ∷ []) old new
  asks_held told_size copied files told =
      let found = opens.opened files told in
      let h = input.layout in
      let size : (d.state input.disk).size ≡ length found.0 = told_size found.0 found.3.bytes in
      let first : (d.state from).asked ≤ 16384 = omega (arith, ap (λ (x : D). (d.state x).asked) from_is, opens.asked) in
      let adds : Adds (s.state mid').asked (d.state to).asked (s.state new).asked = subst (λ (y : D). Adds (s.state mid').asked (d.state y).asked (s.state new).asked) to_is gives.asked in
      let within : end h h.frames ≤ length found.0 = omega (arith, input.held, size) in
      let sizes : sizes_of files (name ∷ []) ≡ size_of (Some found.0) + 0 = ap (λ (o : Option (List ℕ)). size_of o + 0) found.1 in
      summed (sizes_of files (name ∷ [])) (size_of (Some found.0)) (bytes_checked h) (bytes_to_copy h.params h.frames) sizes (whole_within found.0 h input.fits input.good within found.2) first adds copied opens.out.bytes.asked
    where
      summed : (sizes m y z : ℕ) → sizes ≡ m + 0 → y + z ≤ m → (d.state from).asked ≤ 16384 → Adds (s.state mid').asked (d.state to).asked (s.state new).asked
          → AtMost (d.state from).asked (y + z) (d.state to).asked → (s.state mid).asked ≡ (s.state old).asked → AtMost (s.state old).asked (1 * sizes + 16384 * 1) (s.state new).asked
      summed sizes m y z is whole first adds copying same =
          record { later = omega (arith, unasked, same, adds.later); most = omega (arith, unasked, same, adds.most, copying.most, first, is, whole) }
