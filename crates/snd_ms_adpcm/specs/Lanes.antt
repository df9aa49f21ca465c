-- Eight channels of Microsoft ADPCM that are coded side by side, those of four blocks: what the code keeps, for the proofs alone.
use Rattle.std.specs.Prelude.{◌≡◌, ℕ, ℤ, pos, ◌+◌, ◌*◌, ◌/◌, ◌%◌, ◌<◌, ◌≤◌, ◌≤ℤ◌, All, List, ◌∷◌, ◌++◌, drop, get_or, length, take, unsigned_abs}
use Rattle.snd_ms_adpcm.specs.declared.microsoft_four_writer.Lanes.{Lanes}
use Rattle.snd_ima_adpcm.specs.Frames.{Is16Bit, alternating, bytes_high_half_first, firsts, seconds}
use Rattle.snd_ms_adpcm.specs.Microsoft.{ms_bytes, ms_codes}

-- what a delta is between two samples that are coded
pub record IsDelta (delta : ℤ) : Type 0 where
  pub least : pos 16 ≤ℤ delta
  pub most : delta ≤ℤ pos 1048576

pub record AreReady (l : Lanes) : Type 0 where
  pub newer_by : All (λ z. unsigned_abs z ≤ 512) l.newer_by
  pub older_by : All (λ z. unsigned_abs z ≤ 256) l.older_by
  pub newer : All Is16Bit l.newer
  pub older : All Is16Bit l.older
  pub delta : All IsDelta l.delta

-- the codes that the channel at a place gives to samples
unfoldable pub lane_codes : Lanes → ℕ → List ℤ → List ℕ
lane_codes l k samples =
    ms_codes (get_or l.newer_by k (pos 0)) (get_or l.older_by k (pos 0)) (get_or l.newer k (pos 0)) (get_or l.older k (pos 0)) (get_or l.delta k (pos 0)) samples

-- the channels before a place took a sample each, and have given its code
pub record Takes (old : Lanes) (samples : List ℤ) (codes : List ℕ) (new : Lanes) (before : ℕ) : Type 0 where
  pub each : (k : ℕ) (more : List ℤ) → k < before → lane_codes old k (get_or samples k (pos 0) ∷ more) ≡ get_or codes k 0 ∷ lane_codes new k more

-- .. and those from a place on have not; the weights stay
pub record AreLeft (old new : Lanes) (from : ℕ) : Type 0 where
  pub newer_by : new.newer_by ≡ old.newer_by
  pub older_by : new.older_by ≡ old.older_by
  pub newer : (k : ℕ) → from ≤ k → get_or new.newer k (pos 0) ≡ get_or old.newer k (pos 0)
  pub older : (k : ℕ) → from ≤ k → get_or new.older k (pos 0) ≡ get_or old.older k (pos 0)
  pub delta : (k : ℕ) → from ≤ k → get_or new.delta k (pos 0) ≡ get_or old.delta k (pos 0)

-- a block has samples of 16 bits, for the heads at least, and as many as another
pub record IsBlock (samples : List ℤ) (count : ℕ) : Type 0 where
  pub size : length samples ≡ count
  pub least : 4 ≤ length samples
  pub even : length samples % 2 ≡ 0
  pub range : All Is16Bit samples

-- the bytes of a block's heads and of n frames behind its first two stand in their places, and two channels stand behind these
pub record IsCoded (n : ℕ) (samples : List ℤ) (l : Lanes) (left right : ℕ) (into : List ℕ) : Type 0 where
  pub so_far : take (n + 14) into
      ++ bytes_high_half_first (alternating (lane_codes l left (firsts (drop (2 * n) (drop 4 samples)))) (lane_codes l right (seconds (drop (2 * n) (drop 4 samples)))))
      ≡ ms_bytes 2 samples
  pub room : length into ≡ length samples / 2 + 12
