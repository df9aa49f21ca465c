-- Lists of bytes that are made of others, for the lister of images.
use Rattle.std.specs.Prelude.{◌≡◌, ◌⊎◌, ◌==◌, ◌/◌, ◌++◌, [], ◌∷◌, ℕ, List, Vec, length, get_or, map, take, if◌then◌else◌}
use Rattle.std.specs.List.{Contains, range_with_len}
use Rattle.std.specs.declared.alloc.Global.{Global}
use Rattle.snd_disk.specs.Bytes.{Mix, HasSectorOf, over}
use Rattle.snd_memory.specs.Past.{image_after}
use Rattle.snd_memory.specs.declared.call.Made.{Made}
use Rattle.snd_memory.specs.declared.call.Call.{Call}
use Rattle.snd_memory.specs.declared.call.Call.TheVariants.{Write, Cut, Sync}

-- x is one of these lists
abbrev pub IsOneOf : List (Vec ℕ Global) → List ℕ → Type 0
IsOneOf all x = (v : Vec ℕ Global) × Contains all v × (v.items ≡ x)

-- a list is added, or was there
abbrev pub Adds : List (Vec ℕ Global) → List (Vec ℕ Global) → Vec ℕ Global → Type 0
Adds old new x = (new ≡ old) ⊎ (new ≡ old ++ x ∷ [])

-- x, with sector k that of z
abbrev pub with_sector_of : List ℕ → List ℕ → ℕ → List ℕ
with_sector_of x z k = map (λ i. if i / 512 == k then get_or z i 0 else get_or x i 0) (range_with_len 0 (length x))

-- x is n long, and each of its sectors is that of y or of z
pub record IsMixOfLen (y z : List ℕ) (n : ℕ) (x : List ℕ) : Type 0 where
  pub size : length x ≡ n
  pub sectors : (k : ℕ) → HasSectorOf x y k ⊎ HasSectorOf x z k

-- x is one of these lists, or such a one with one sector that of z
abbrev pub IsDoubled : List (Vec ℕ Global) → List ℕ → ℕ → List ℕ → Type 0
IsDoubled all z k x = (v : Vec ℕ Global) × Contains all v × ((x ≡ v.items) ⊎ (x ≡ with_sector_of v.items z k))

-- x is a mix of one of these lists and of what a call meant to leave
abbrev pub IsMixedFrom : List (Vec ℕ Global) → List ℕ → List ℕ → Type 0
IsMixedFrom all meant x = (v : Vec ℕ Global) × Contains all v × Mix v.items meant x

-- x is an image after one call more, where these lists are the images before it
abbrev pub IsNextImage : List (Vec ℕ Global) → Made → List ℕ → List ℕ → Type 0
IsNextImage all made b x = image_after made.call made.end b (IsOneOf all) x

-- what a call meant to leave of b
abbrev pub meant_by : Call → List ℕ → List ℕ
meant_by (Write at from) b = over b at from.items
meant_by (Cut len) b = take len b
meant_by Sync b = b
