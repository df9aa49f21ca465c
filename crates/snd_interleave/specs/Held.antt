-- What the frames of inputs are held as while they pass: the numbers of their samples, or the pairs of bytes that these are. It is said
-- for the proofs alone.
use Rattle.std.specs.Prelude.{◌≡◌, ◌≢◌, ℕ, ℤ, ◌+◌, ◌*◌, ◌/◌, ◌<◌, Bool, true, false, List, [], ◌∷◌, get_or, length}
use Rattle.std.proofs.Common.{◌∙◌, ap, sym}
use Rattle.snd_disk.specs.declared.disk.Disk.{Ghosts}
use Rattle.snd_inputs.specs.declared.input.Input.{Input}
use Rattle.snd_layout.specs.Blocks.{is_adpcm}
use Rattle.snd_layout.specs.declared.codec.Codec.{Codec}
use Rattle.snd_layout.specs.declared.codec.Codec.TheVariants.{U8, S8, S16, S24, S32, MuLaw, ALaw, Ima, Ms}
use Rattle.snd_output.specs.Widths.{width_of}
use Rattle.snd_pcm.specs.Width.{HasWidth}

-- ---- inputs whose samples are held so

-- those of each input, and of a file that is made, in their codecs
pub record AllSuit {D : Type 0} {ghosts : Ghosts D} (Suits : Codec → Codec → Type 0) (codec : Codec) (inputs : List (Input D ghosts)) : Type 0 where
  pub itself : Suits codec codec
  pub each : (k : ℕ) (d : Input D ghosts) → k < length inputs → Suits codec (get_or inputs k d).layout.params.codec

-- the samples of the first so many inputs are those of a codec
abbrev pub HaveCodec : {D : Type 0} {ghosts : Ghosts D} → ℕ → Codec → List (Input D ghosts) → Type 0
HaveCodec {D = D} {ghosts = ghosts} count codec inputs = (k : ℕ) (d : Input D ghosts) → k < count → (get_or inputs k d).layout.params.codec ≡ codec

-- ---- numbers

-- they suit every codec
abbrev pub SuitsAll : Codec → Codec → Type 0
SuitsAll codec own = codec ≡ codec

abbrev pub themselves : Codec → List ℤ → List ℤ
themselves codec xs = xs

-- each is in the range of a codec
abbrev pub FitsIn : Codec → ℤ → Type 0
FitsIn codec x = HasWidth (width_of codec) x

-- ---- pairs of bytes

-- whether the samples of a codec are pairs: linear ones of 16 bits
abbrev pub is_pair : Codec → Bool
is_pair (S16 order) = true
is_pair codec = false

-- .. and those of two are the same
abbrev pub SuitsPairs : Codec → Codec → Type 0
SuitsPairs codec own = (is_pair codec ≡ true) × (own ≡ codec)

-- so none of them has blocks
pub pairs_whole : (codec own : Codec) → SuitsPairs codec own → is_adpcm own ≡ true → ◌≡◌ {A = ℕ} 8192 16384
pairs_whole (S16 order) own suits blocks = absurd (let never : is_adpcm (S16 order) ≡ true = sym (ap is_adpcm suits.1) ∙ blocks in cc)
pairs_whole U8 own suits blocks = absurd (let never = suits.0 in cc)
pairs_whole S8 own suits blocks = absurd (let never = suits.0 in cc)
pairs_whole (S24 order) own suits blocks = absurd (let never = suits.0 in cc)
pairs_whole (S32 order) own suits blocks = absurd (let never = suits.0 in cc)
pairs_whole MuLaw own suits blocks = absurd (let never = suits.0 in cc)
pairs_whole ALaw own suits blocks = absurd (let never = suits.0 in cc)
pairs_whole (Ima align per_block) own suits blocks = absurd (let never = suits.0 in cc)
pairs_whole (Ms align per_block) own suits blocks = absurd (let never = suits.0 in cc)

-- any number is one of 16 bits
abbrev pub FitsAnyway : Codec → ℤ → Type 0
FitsAnyway codec x = x ≡ x

-- how many pairs bytes are
abbrev pub pairs_in : List ℕ → ℕ
pairs_in bytes = length bytes / 2

-- one pair of some bytes is one of others
abbrev pub SamePair : List ℕ → ℕ → List ℕ → ℕ → Type 0
SamePair a i b j = (get_or a (2 * i) 0 ≡ get_or b (2 * j) 0) × (get_or a (2 * i + 1) 0 ≡ get_or b (2 * j + 1) 0)

-- one channel of the frames that a block has is these pairs
abbrev pub HasPairs : ℕ → ℕ → List ℕ → List ℕ → Type 0
HasPairs channels which pairs block = (j : ℕ) → j < pairs_in pairs → SamePair block (j * channels + which) pairs j

-- the others stay, in so many frames
abbrev pub KeepsPairs : ℕ → ℕ → ℕ → List ℕ → List ℕ → Type 0
KeepsPairs channels which count old new = (j c : ℕ) → j < count → c < channels → c ≢ which → SamePair new (j * channels + c) old (j * channels + c)

-- two of them as a frame
abbrev pub frame_of : List ℕ → List ℕ → ℕ → List ℕ
frame_of one other i = get_or one (2 * i) 0 ∷ get_or one (2 * i + 1) 0 ∷ get_or other (2 * i) 0 ∷ get_or other (2 * i + 1) 0 ∷ []

-- so many frames of a block are the pairs of two channels
pub record AreJoined (count : ℕ) (one other block : List ℕ) : Type 0 where
  pub left : (j : ℕ) → j < count → SamePair block (j * 2 + 0) one j
  pub right : (j : ℕ) → j < count → SamePair block (j * 2 + 1) other j
