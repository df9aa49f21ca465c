-- Calls one after another give what the rule makes of the whole list.
use Rattle.std.specs.Prelude.{◌≡◌, ◌⊎◌, ℕ, ℤ, List, [], ◌∷◌, ◌++◌, length, IsTrue}
use Rattle.std.specs.List.{All}
use Rattle.snd_fields.specs.Blocks.{is_ima_align}
use Rattle.snd_fields.specs.Laws.{IsByte}
use Rattle.snd_ima_adpcm.specs.Frames.{Is16Bit}
use Rattle.snd_ima_adpcm.specs.Blocks.{Rule, filled, joined, bytes_of_list, bytes_of_calls}
use Rattle.snd_ima_adpcm.specs.Ima.{Indices, ima_bytes, ima_next_indices, ima_numbers}

-- ---- the codes of any rule

-- the data bytes of numbers of 16 bits are bytes
abbrev pub DataAreBytes : (List ℤ → List ℕ) → Type 0
DataAreBytes bytes = (samples : List ℤ) → All Is16Bit samples → All IsByte (bytes samples)

-- ---- IMA

abbrev pub ima_rule : ℕ → Rule Indices
ima_rule channels = record { bytes = ima_bytes channels; next = ima_next_indices channels }

-- the data bytes of a list of samples, frame by frame: each channel's index starts at 0 and goes on from block to block
abbrev pub ima_data : ℕ → ℕ → List ℤ → List ℕ
ima_data channels align samples = bytes_of_list (ima_rule channels) (ima_numbers channels align) (0, 0) samples

-- the samples of the calls, joined, are the list, filled with zeros to whole blocks
abbrev pub ImaCallsGiveData : Type 0
ImaCallsGiveData = (channels align : ℕ) (samples : List ℤ) (calls : List (List ℤ)) → (channels ≡ 1) ⊎ (channels ≡ 2) → IsTrue (is_ima_align channels align) →
    All (λ call. length call ≡ ima_numbers channels align) calls → joined calls ≡ filled (ima_numbers channels align) samples →
    bytes_of_calls (ima_rule channels) (0, 0) calls ≡ ima_data channels align samples

-- joined calls need no filling
abbrev pub ImaCallsAreWhole : Type 0
ImaCallsAreWhole = (channels align : ℕ) (calls : List (List ℤ)) → (channels ≡ 1) ⊎ (channels ≡ 2) → IsTrue (is_ima_align channels align) →
    All (λ call. length call ≡ ima_numbers channels align) calls → bytes_of_calls (ima_rule channels) (0, 0) calls ≡ ima_data channels align (joined calls)

abbrev pub ImaDataAreBytes : Type 0
ImaDataAreBytes = (channels align : ℕ) → DataAreBytes (ima_data channels align)
