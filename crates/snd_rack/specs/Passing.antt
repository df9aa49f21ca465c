-- Frames that pass several stages, by what these hold.
use Rattle.std.specs.Prelude.{◌≡◌, ℕ, zero, suc, ◌*◌, ◌%◌, ◌≤◌, ℤ, false, List, [], ◌∷◌, fold, length, map}
use Rattle.std.specs.List.{flat_map}
use Rattle.snd_pcm.specs.Groups.{groups}
use Rattle.snd_rack.specs.Held.{Held, MayPass, next, passed}
use Rattle.snd_rack.specs.Rack.{channels_after, channels_behind, is_bad}
use Rattle.snd_rack.specs.Stage.{IsSettled, Stated, kind_of}

-- a frame behind all of them
abbrev pub passed_all : List Held → List ℤ → List ℤ
passed_all hs frame = fold (λ frame h. passed h frame) frame hs

-- it may pass each of them as it comes there
abbrev pub MayPassAll : List Held → List ℤ → Type 0
MayPassAll [] frame = Unit {0}
MayPassAll (h ∷ hs) frame = MayPass h frame × MayPassAll hs (passed h frame)

-- one frame after the other
abbrev pub each_passed : List Held → List (List ℤ) → List (List ℤ)
each_passed hs [] = []
each_passed hs (frame ∷ frames) = passed_all hs frame ∷ each_passed (map next hs) frames

abbrev pub EachMayPass : List Held → List (List ℤ) → Type 0
EachMayPass hs [] = Unit {0}
EachMayPass hs (frame ∷ frames) = MayPassAll hs frame × EachMayPass (map next hs) frames

-- the samples of frames, one behind the other
abbrev pub joined : List (List ℤ) → List ℤ
joined frames = flat_map (λ frame. frame) frames

-- the stages when so many frames more have passed
abbrev pub later : ℕ → List Held → List Held
later zero hs = hs
later (suc n) hs = later n (map next hs)

-- what becomes of frames behind one stage, one after the other
abbrev pub each_by : Held → List (List ℤ) → List (List ℤ)
each_by h [] = []
each_by h (frame ∷ frames) = passed h frame ∷ each_by (next h) frames

-- each may pass it as it comes
abbrev pub EachMay : Held → List (List ℤ) → Type 0
EachMay h [] = Unit {0}
EachMay h (frame ∷ frames) = MayPass h frame × EachMay (next h) frames

-- .. and the stage when so many have passed
abbrev pub next_by : ℕ → Held → Held
next_by zero h = h
next_by (suc n) h = next_by n (next h)

-- the samples of whole frames of so many each, behind one stage
abbrev pub passed_block : Held → ℕ → List ℤ → List ℤ
passed_block h channels xs = joined (each_by h (groups channels xs))

-- they may pass it, and what becomes of them is no more than passes at a time
pub record MayPassBlock (h : Held) (channels : ℕ) (xs : List ℤ) : Type 0 where
  pub some : 1 ≤ channels
  pub most : channels ≤ 256
  pub whole : length xs % channels ≡ 0
  pub settled : IsSettled h.stated
  pub there : is_bad channels h.stated ≡ false
  pub may : EachMay h (groups channels xs)
  pub room : length (passed_block h channels xs) ≤ 16384

-- how many samples a frame has behind all of them
abbrev pub channels_through : List Held → ℕ → ℕ
channels_through hs channels = channels_after (map (λ h. h.stated) hs) channels

-- so many frames of so many samples have places behind each stage
abbrev pub AllHaveRoom : List Held → ℕ → ℕ → Type 0
AllHaveRoom [] channels frames = Unit {0}
AllHaveRoom (h ∷ hs) channels frames =
    (frames * channels_behind channels h.stated ≤ 16384) × AllHaveRoom hs (channels_behind channels h.stated) frames

-- a stage that was started for frames with so many samples, in this range
pub record IsPassable (low high : ℤ) (channels : ℕ) (h : Held) : Type 0 where
  pub kind_is : h.kind ≡ kind_of h.stated
  pub settled : IsSettled h.stated
  pub low_is : h.low ≡ low
  pub high_is : h.high ≡ high
  pub there : is_bad channels h.stated ≡ false

-- .. and one behind the other
abbrev pub ArePassable : ℤ → ℤ → ℕ → List Held → Type 0
ArePassable low high channels [] = Unit {0}
ArePassable low high channels (h ∷ hs) = IsPassable low high channels h × ArePassable low high (channels_behind channels h.stated) hs

-- each item divides by no 0 and picks a sample
abbrev pub AllSettled : List Stated → Type 0
AllSettled [] = Unit {0}
AllSettled (s ∷ items) = IsSettled s × AllSettled items

-- the stages of a rack when so many frames have passed
abbrev pub held_as : ℤ → ℤ → ℕ → Stated → Held
held_as low high k s = record { kind = kind_of s; stated = s; low = low; high = high; seen = k }

abbrev pub all_held : ℤ → ℤ → ℕ → List Stated → List Held
all_held low high k items = map (held_as low high k) items
