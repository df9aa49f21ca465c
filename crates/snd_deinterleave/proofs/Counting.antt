-- Counts of faults and of bytes asked, where files of a shelf are made of an open one.
use Rattle.std.proofs.Common.{◌≡◌, ◌∙◌, ap, subst, ℕ, ◌+◌, ◌*◌, ◌≤◌, List, [], ◌∷◌, Some, Ok, Err, Result, length, arith}
use Rattle.std.proofs.Math.Nat.{mul-le-mul_left, mul-le-mul_right}
use Rattle.snd_disk.specs.Device.{Tells}
use Rattle.snd_disk.specs.Shelf.{Gives}
use Rattle.snd_disk.specs.State.{Adds, AtMost}
use Rattle.snd_disk.specs.declared.disk.Disk.{Ghosts}
use Rattle.snd_disk.specs.declared.shelf.Shelf.{Ghosts as ShelfMeaning}
use Rattle.snd_edits.specs.Known.{Known}
use Rattle.snd_inputs.proofs.Public.{whole_within}
use Rattle.snd_inputs.specs.Asking.{AsksForEach, size_of, sizes_of}
use Rattle.snd_inputs.specs.Copying.{bytes_checked, bytes_to_copy}
use Rattle.snd_inputs.specs.Opening.{IsOpen}
use Rattle.snd_inputs.specs.declared.input.Input.{Input}
use Rattle.snd_layout.specs.Shape.{Shape, end}
use Rattle.snd_output.specs.Ends.{CountsOneOf}
use Rattle.snd_output.specs.declared.stop.Stop.{Stop}
use Rattle.snd_output.specs.declared.stop.Stop.TheVariants.{Changed, Fault, Memory}
use Rattle.snd_tools.proofs.Public.{counts_given}
use Rattle.snd_tools.specs.Shelves.{CountsOneOf as CountsOne}
use Rattle.snd_deinterleave.specs.Making.{bytes_split}

-- ---- faults

to_tools : {T : Type 0} (r : Result T Stop) (a b c d : ℕ) → CountsOneOf a b c d r → CountsOne a b c d r
to_tools (Ok x) a b c d counts = counts
to_tools (Err Fault) a b c d counts = counts
to_tools (Err Memory) a b c d counts = counts
to_tools (Err Changed) a b c d counts = counts

from_tools : {T : Type 0} (r : Result T Stop) (a b c d : ℕ) → CountsOne a b c d r → CountsOneOf a b c d r
from_tools (Ok x) a b c d counts = counts
from_tools (Err Fault) a b c d counts = counts
from_tools (Err Memory) a b c d counts = counts
from_tools (Err Changed) a b c d counts = counts

-- A file was made of an open one, behind others, and is given back.
pub counts_made : {T : Type 0} (r : Result T Stop) (file file' file'' old mid mid' taken given new : ℕ) → mid ≡ old → file' ≡ file → mid' ≡ mid → taken ≡ 0
    → CountsOneOf file' file'' taken given r → Adds mid' given new → CountsOneOf file file'' old new r
counts_made r file file' file'' old mid mid' taken given new same same_file same' fresh counts adds =
    subst (λ (k : ℕ). CountsOneOf k file'' old new r) same_file
    (from_tools r file' file'' old new (counts_given old mid' taken given new (same' ∙ same) fresh r file' file'' (to_tools r file' file'' taken given counts) adds))

-- The others were not made, and a disk is given back as it was.
pub counts_stopped : {T : Type 0} (r : Result T Stop) (file file' old mid mid' taken new : ℕ) → mid ≡ old → taken ≡ 0 → CountsOneOf file file' mid mid' r → Adds mid' taken new
    → CountsOneOf file file' old new r
counts_stopped r file file' old mid mid' taken new same fresh counts adds =
    let last : mid' ≡ new = omega (arith, fresh, adds.later, adds.most) in
    subst (λ (k : ℕ). CountsOneOf file file' k new r) same (subst (λ (k : ℕ). CountsOneOf file file' mid k r) last counts)

-- ---- bytes

pub asks_nothing : (m a b : ℕ) → b ≡ a → AtMost a m b
asks_nothing m a b same = record { later = omega (arith, same); most = omega (arith, same) }

-- the frames are read once more
pub asks_more : (last count : ℕ) (k k' : Known) (a b c : ℕ) → count ≡ last + 1 → k' ≡ k → AtMost a (bytes_split last k.shape) b → AtMost b (0 + bytes_to_copy k'.shape.params k'.shape.frames) c
    → AtMost a (bytes_split count k.shape) c
asks_more last count k k' a b c more same first second =
    sums (bytes_to_copy k.shape.params k.shape.frames) first (subst (λ (x : Known). AtMost b (0 + bytes_to_copy x.shape.params x.shape.frames) c) same second)
  where
    sums : (n : ℕ) → AtMost a (last * n) b → AtMost b (0 + n) c → AtMost a (count * n) c
    sums n first second =
        let all : count * n ≡ last * n + n = ap (λ (i : ℕ). i * n) more ∙ (let e : (last + 1) * n ≡ last * n + n = omega arith in e) in
        record { later = omega (arith, first.later, second.later); most = omega (arith, first.most, second.most, all) }

-- .. no more often than for the first ones
pub asks_fewer : (last count : ℕ) (h : Shape) (a b : ℕ) → count ≡ last + 1 → AtMost a (bytes_split last h) b → AtMost a (bytes_split count h) b
asks_fewer last count h a b more asks =
    let le : last ≤ count = omega (arith, more) in
    sums (bytes_to_copy h.params h.frames) (mul-le-mul_right (bytes_to_copy h.params h.frames) le) asks
  where
    sums : (n : ℕ) → last * n ≤ count * n → AtMost a (last * n) b → AtMost a (count * n) b
    sums n le was = record { later = was.later; most = omega (arith, was.most, le) }

-- the blocks are checked, and then the frames are read for each output
pub asks_checked : (count : ℕ) (h : Shape) (a b : ℕ) → 1 ≤ count → AtMost a (bytes_checked h) b → AtMost a (count * (bytes_checked h + bytes_to_copy h.params h.frames)) b
asks_checked count h a b some asks = sums (bytes_checked h) (bytes_to_copy h.params h.frames) (mul-le-mul_right (bytes_checked h + bytes_to_copy h.params h.frames) some) asks
  where
    sums : (x y : ℕ) → 1 * (x + y) ≤ count * (x + y) → AtMost a x b → AtMost a (count * (x + y)) b
    sums x y le was = record { later = was.later; most = omega (arith, was.most, le) }

pub asks_all : (count times : ℕ) (k k' : Known) (a b c : ℕ) → 1 ≤ count → times ≡ count → k' ≡ k → AtMost a (bytes_checked k.shape) b → AtMost b (bytes_split times k'.shape) c
    → AtMost a (count * (bytes_checked k.shape + bytes_to_copy k.shape.params k.shape.frames)) c
asks_all count times k k' a b c some each same first second =
    sums (bytes_checked k.shape) (bytes_to_copy k.shape.params k.shape.frames) (mul-le-mul_right (bytes_checked k.shape) some) first
    (subst (λ (n : ℕ). AtMost b (bytes_split n k.shape) c) each (subst (λ (x : Known). AtMost b (bytes_split times x.shape) c) same second))
  where
    sums : (x y : ℕ) → 1 * x ≤ count * x → AtMost a x b → AtMost b (count * y) c → AtMost a (count * (x + y)) c
    sums x y le first second =
        let all : count * (x + y) ≡ count * x + count * y = omega arith in
        record { later = omega (arith, first.later, second.later); most = omega (arith, first.most, second.most, le, all) }

-- so much is asked of the file of a name, which was opened, and is given back
pub asks_split : {S D : Type 0} (s : ShelfMeaning S D) (d : Ghosts D) (old mid mid' new : S) (input : Input D d) (given : D) (name : List ℕ) (count : ℕ) → IsOpen s d name old mid input
    → Gives (s.state mid') (s.state new) name (d.state given) → (s.state mid').asked ≡ (s.state mid).asked → ((b : List ℕ) → Tells d.state input.disk b → (d.state input.disk).size ≡ length b)
    → AtMost (d.state input.disk).asked (count * (bytes_checked input.layout + bytes_to_copy input.layout.params input.layout.frames)) (d.state given).asked
    → AsksForEach count 16384 s.state (name ∷ []) old new
asks_split s d old mid mid' new input given name count opens gives unasked told_size asks files told =
    let found = opens.opened files told in
    let size : (d.state input.disk).size ≡ length found.0 = told_size found.0 found.3.bytes in
    let within : end input.layout input.layout.frames ≤ length found.0 = omega (arith, input.held, size) in
    let each = whole_within found.0 input.layout input.fits input.good within found.2 in
    let bytes : sizes_of files (name ∷ []) ≡ size_of (Some found.0) + 0 = ap (λ o. size_of o + 0) found.1 in
    sums (bytes_checked input.layout + bytes_to_copy input.layout.params input.layout.frames) (sizes_of files (name ∷ [])) (omega (arith, each, bytes)) asks
  where
    sums : (x y : ℕ) → x ≤ y → AtMost (d.state input.disk).asked (count * x) (d.state given).asked → AtMost (s.state old).asked (count * y + 16384 * 1) (s.state new).asked
    sums x y le was =
        let more : count * x ≤ count * y = mul-le-mul_left count le in
        record {
          later = omega (arith, opens.out.bytes.asked, unasked, gives.asked.later);
          most = omega (arith, opens.out.bytes.asked, unasked, gives.asked.most, was.most, opens.asked, more);
        }
