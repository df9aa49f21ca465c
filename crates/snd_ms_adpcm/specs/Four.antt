-- Four blocks of Microsoft ADPCM of two channels at once: what the call says that decodes them, and then what its code keeps, for
-- the proofs alone. Four blocks that are made stand in Lanes.
use Rattle.std.specs.Prelude.{◌≡◌, ℕ, ℤ, ◌*◌, ◌/◌, ◌%◌, ◌<◌, ◌≤◌, List, All, Bool, false, get_or, length, take, drop, unsigned_abs}
use Rattle.std.specs.List.{list_any, range_with_len}
use Rattle.snd_ms_adpcm.specs.declared.microsoft_four.Row.{Row}
use Rattle.snd_ms_adpcm.specs.declared.microsoft_four.FourBlocks.{FourBlocks}
use Rattle.snd_ms_adpcm.specs.declared.microsoft_state.MsState.{MsState}
use Rattle.snd_ima_adpcm.specs.Frames.{Is16Bit}
use Rattle.snd_ms_adpcm.specs.Microsoft.{adaptation, is_bad_ms_block, ms_block, ms_delta, signed_code}
use Rattle.snd_ms_adpcm.specs.States.{ms_sample_at}

-- numbers are the samples of a good block
pub record AreSamples (block : List ℕ) (numbers : List ℤ) : Type 0 where
  pub good : is_bad_ms_block 2 block ≡ false
  pub samples : numbers ≡ ms_block 2 block
  pub range : All Is16Bit numbers

-- a part of a list: of so many entries, behind so many such parts
abbrev pub part : {X : Type 0} → ℕ → ℕ → List X → List X
part size k xs = take size (drop (k * size) xs)

-- one of four blocks is bad
abbrev pub any_bad : ℕ → List ℕ → Bool
any_bad align bytes = list_any (λ k. is_bad_ms_block 2 (part align k bytes)) (range_with_len 0 4)

-- ---- for the proofs alone

-- a row is what a byte says of two channels, whose codes are its high and its low half
pub record IsRow (byte : ℕ) (row : Row) : Type 0 where
  pub left_deltas : row.left_deltas ≡ signed_code (byte / 16)
  pub right_deltas : row.right_deltas ≡ signed_code (byte % 16)
  pub left_factor : row.left_factor ≡ adaptation (byte / 16)
  pub right_factor : row.right_factor ≡ adaptation (byte % 16)
  pub few_left : unsigned_abs row.left_deltas ≤ 8
  pub few_right : unsigned_abs row.right_deltas ≤ 8
  pub small_left : unsigned_abs row.left_factor ≤ 768
  pub small_right : unsigned_abs row.right_factor ≤ 768

abbrev pub AreRows : List Row → Type 0
AreRows rows = (byte : ℕ) (row : Row) → byte < 256 → IsRow byte (get_or rows byte row)

-- a channel's state after a code
pub record FollowsFrom (old : MsState) (code : ℕ) (new : MsState) : Type 0 where
  pub newer : new.newer ≡ ms_sample_at old code
  pub older : new.older ≡ old.newer
  pub delta : new.delta ≡ ms_delta old.delta code
  pub newer_by : new.newer_by ≡ old.newer_by
  pub older_by : new.older_by ≡ old.older_by

-- none of four blocks is bad
pub record AreGood (blocks : FourBlocks) : Type 0 where
  pub first : is_bad_ms_block 2 blocks.first.now ≡ false
  pub second : is_bad_ms_block 2 blocks.second.now ≡ false
  pub third : is_bad_ms_block 2 blocks.third.now ≡ false
  pub fourth : is_bad_ms_block 2 blocks.fourth.now ≡ false

-- they have one size, with room for their heads
pub record AreAlike (blocks : FourBlocks) : Type 0 where
  pub whole : 14 ≤ length blocks.first.now
  pub second : length blocks.second.now ≡ length blocks.first.now
  pub third : length blocks.third.now ≡ length blocks.first.now
  pub fourth : length blocks.fourth.now ≡ length blocks.first.now
