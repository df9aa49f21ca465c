-- A block has samples.
use Rattle.std.proofs.Common.{◌≡◌, ℕ, ◌<◌, ◌⊎◌, inl, inr, arith}
use Rattle.snd_ms_adpcm.specs.Microsoft.{ms_numbers}

pub ms_numbers-positive : (channels align : ℕ) → (channels ≡ 1) ⊎ (channels ≡ 2) → 0 < ms_numbers channels align
ms_numbers-positive channels align (inl one) = rw one (omega arith)
ms_numbers-positive channels align (inr two) = rw two (omega arith)
