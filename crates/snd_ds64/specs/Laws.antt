-- What a promoted file owes the file that it was, and what a crash leaves of it.
use Rattle.std.specs.Prelude.{◌≡◌, ◌⊎◌, ℕ, ◌+◌, ◌<◌, ◌≤◌, List, ◌++◌, Ok, Some, codes, drop, get_or, length}
use Rattle.snd_disk.specs.Runs.{HasAt}
use Rattle.snd_fields.specs.Field.{bytes_of}
use Rattle.snd_fields.specs.declared.field.Order.TheVariants.{Little}
use Rattle.snd_layout.specs.Shape.{Shape, end}
use Rattle.snd_rf64.specs.Layout.{rf64_layout}
use Rattle.snd_ds64.specs.Moments.{IsPromoting}
use Rattle.snd_ds64.specs.Promoted.{MayPromote, new_front, promoted, promoted_shape}

-- The reservation of a file stands at place 12, with its size behind its identifier; its body has room for all that `ds64` states,
-- and ends 8 bytes before the data.
abbrev pub ReservationStands : Type 0
ReservationStands = (b : List ℕ) (h : Shape) (n size : ℕ) → MayPromote b h n → h.reserve ≡ Some size
    → HasAt b 12 (codes "JUNK" ++ bytes_of Little 4 size) × (28 ≤ size) × (28 + size ≤ h.start)

-- A promoted file opens as RF64, with the parameters, the start, the frames and the further chunks.
abbrev pub OpensPromoted : Type 0
OpensPromoted = (b : List ℕ) (h : Shape) (n : ℕ) → MayPromote b h n → rf64_layout (promoted b h n) ≡ Ok (promoted_shape h n)

-- So does each file that has the new first bytes, those of b between these and the data size before the data, and the data of so many
-- frames: the data size of 32 bits decides nothing, nor does what the data are, nor what stands behind them.
abbrev pub PromotedReadsBack : Type 0
PromotedReadsBack = (b x : List ℕ) (h : Shape) (n : ℕ) → MayPromote b h n → HasAt x 0 (new_front h n)
    → ((i : ℕ) → 48 ≤ i → i + 4 < h.start → get_or x i 0 ≡ get_or b i 0) → end h n ≤ length x
    → rf64_layout x ≡ Ok (promoted_shape h n)

-- It is as long as it was, has each byte beside the two places, and so the bodies of its chunks and its samples.
abbrev pub PromotedKeeps : Type 0
PromotedKeeps = (b : List ℕ) (h : Shape) (n : ℕ) → MayPromote b h n
    → (length (promoted b h n) ≡ length b)
    × ((i : ℕ) → 48 ≤ i → (i + 4 < h.start) ⊎ (h.start ≤ i) → get_or (promoted b h n) i 0 ≡ get_or b i 0)
    × (drop h.start (promoted b h n) ≡ drop h.start b)

-- What a crash leaves while a file is promoted is the file itself, or opens as the promoted one.
abbrev pub PromotingIsWhole : Type 0
PromotingIsWhole = (b x : List ℕ) (h : Shape) (n : ℕ) → MayPromote b h n → IsPromoting b h n x
    → (x ≡ b) ⊎ (rf64_layout x ≡ Ok (promoted_shape h n))

-- .. and both are among what it may leave.
abbrev pub PromotesFromTo : Type 0
PromotesFromTo = (b : List ℕ) (h : Shape) (n : ℕ) → MayPromote b h n → IsPromoting b h n b × IsPromoting b h n (promoted b h n)
