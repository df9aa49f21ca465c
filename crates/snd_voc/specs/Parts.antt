-- What holds over every disk of the parts of a Creative Voice file from which its layout is made.
use Rattle.std.specs.Prelude.{⊤, ◌≡◌, ◌⊎◌, ℕ, ◌+◌, ◌*◌, ◌^◌, ◌<◌, ◌≤◌, List, All, IfSome, get_or}
use Rattle.snd_layout.specs.Opened.{EndsIn}
use Rattle.snd_layout.specs.Shape.{Shape, end, room}
use Rattle.snd_voc.specs.declared.blocks.Block.{Block}
use Rattle.snd_voc.specs.declared.blocks.Seen.{Seen}
use Rattle.snd_voc.specs.declared.blocks.Seen.TheVariants.{Found, Refused, Passed}
use Rattle.snd_voc.specs.declared.blocks.Sound.{Sound}

-- the first n bytes of x are those of b from a place on, and zeros past its end
abbrev pub AgreesFrom : List ℕ → ℕ → ℕ → List ℕ → Type 0
AgreesFrom b at n x = (i : ℕ) → i < n → get_or x i 0 ≡ get_or b (at + i) 0

-- a block whose head stands at a place
pub record HasHeadAt (place : ℕ) (block : Block) : Type 0 where
  pub at : block.at ≡ place + 4
  pub len : block.len < 2 ^ 32

abbrev pub IsSeen : ℕ → Seen → Type 0
IsSeen place (Found kind) = (kind ≡ 1) ⊎ (kind ≡ 9)
IsSeen place (Refused refusal) = ⊤
IsSeen place (Passed block) = HasHeadAt place block

-- The sound's block, to which a walk over at most n blocks came: near the place where the walk began, and behind the block of
-- type 8 that counts.
pub record IsSound (from n : ℕ) (sound : Sound) : Type 0 where
  pub kind : (sound.kind ≡ 1) ⊎ (sound.kind ≡ 9)
  pub near : sound.at ≤ from + n * 2 ^ 33
  pub extension : IfSome sound.extension (λ block. block.at ≤ sound.at)

-- the data and the pieces end within a file of so many bytes, and the data for which the head has room end on a disk
pub record IsHeld (size : ℕ) (layout : Shape) : Type 0 where
  pub held : end layout layout.frames ≤ size
  pub pieces : All (EndsIn size) layout.pieces
  pub room_ends : layout.start + room layout + 8 ≤ 2 ^ 63

-- the sound's block, where all that follows of it lies on a disk
pub record IsPlaced (sound : Sound) : Type 0 where
  pub kind : (sound.kind ≡ 1) ⊎ (sound.kind ≡ 9)
  pub early : sound.at < 2 ^ 42
  pub extension : IfSome sound.extension (λ block. block.at ≤ sound.at)
