-- Calls one after another give what the rule makes of the whole list.
use Rattle.std.specs.Prelude.{◌≡◌, ◌⊎◌, ℕ, ℤ, List, length, IsTrue}
use Rattle.std.specs.List.{All}
use Rattle.snd_fields.specs.Blocks.{is_ms_align}
use Rattle.snd_ima_adpcm.specs.Blocks.{Rule, filled, joined, bytes_of_list, bytes_of_calls}
use Rattle.snd_ima_adpcm.specs.Laws.{DataAreBytes}
use Rattle.snd_ms_adpcm.specs.Microsoft.{ms_bytes, ms_numbers}

abbrev pub ms_rule : ℕ → Rule (Unit {0})
ms_rule channels = record { bytes = λ _ samples. ms_bytes channels samples; next = λ state _. state }

-- the data bytes of a list of samples, frame by frame
abbrev pub ms_data : ℕ → ℕ → List ℤ → List ℕ
ms_data channels align samples = bytes_of_list (ms_rule channels) (ms_numbers channels align) tt samples

abbrev pub MsCallsGiveData : Type 0
MsCallsGiveData = (channels align : ℕ) (samples : List ℤ) (calls : List (List ℤ)) → (channels ≡ 1) ⊎ (channels ≡ 2) → IsTrue (is_ms_align channels align) →
    All (λ call. length call ≡ ms_numbers channels align) calls → joined calls ≡ filled (ms_numbers channels align) samples →
    bytes_of_calls (ms_rule channels) tt calls ≡ ms_data channels align samples

abbrev pub MsCallsAreWhole : Type 0
MsCallsAreWhole = (channels align : ℕ) (calls : List (List ℤ)) → (channels ≡ 1) ⊎ (channels ≡ 2) → IsTrue (is_ms_align channels align) →
    All (λ call. length call ≡ ms_numbers channels align) calls → bytes_of_calls (ms_rule channels) tt calls ≡ ms_data channels align (joined calls)

-- the data bytes of numbers of 16 bits are bytes
abbrev pub MsDataAreBytes : Type 0
MsDataAreBytes = (channels align : ℕ) → DataAreBytes (ms_data channels align)
