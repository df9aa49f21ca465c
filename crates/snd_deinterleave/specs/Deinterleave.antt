-- What `deinterleave` does: the whole files that it makes, or what it refuses. It refuses in this order: an output whose name is the
-- input's or that of an earlier output; an input that is missing or is not opened; one whose channels are not as many as the outputs;
-- what an output would be; more data than its head has room for; and an input that has a bad block.
use Rattle.std.specs.Prelude.{ℕ, ℤ, pos, Bool, ◌==◌, List, [], ◌∷◌, Option, Some, None, Result, Ok, Err, find, get_or, length, map, slice_index_or, take, if◌then◌else◌}
use Rattle.std.specs.List.{list_any, range_with_len}
use Rattle.std.specs.Str.{bytes_eq}
use Rattle.snd_disk.specs.Shelf.{Files}
use Rattle.snd_inputs.specs.Inputs.{input_in, is_bad}
use Rattle.snd_inputs.specs.Rooms.{is_full}
use Rattle.snd_layout.specs.Params.{Parameters}
use Rattle.snd_layout.specs.declared.kind.Kind.{Kind}
use Rattle.snd_layout.specs.declared.refusal.OpenRefusal.{OpenRefusal}
use Rattle.snd_lines.specs.declared.refusal.Refusal.{Refusal}
use Rattle.snd_lines.specs.declared.refusal.Refusal.TheVariants.{BadBlock, ContainerFull, Open, SameName, WrongCount}
use Rattle.snd_edits.specs.Editing.{Editing}
use Rattle.snd_output.specs.Codecs.{params_like}
use Rattle.snd_output.specs.Made.{made_file}
use Rattle.snd_deinterleave.specs.Outputs.{DoneAll}

-- ---- the files that are made

-- one sample of each frame
abbrev pub channel_of : ℕ → List (List ℤ) → List ℤ
channel_of k frames = map (λ frame. get_or frame k (pos 0)) frames

-- a file of a kind that has these samples as its frames, without further chunks
abbrev pub file_of : Kind → Parameters → Editing → ℕ → List ℕ
file_of kind p e k = made_file kind p [] (channel_of k e.frames)

abbrev pub made_if_good : List ℕ → List (List ℕ) → Kind → Parameters → Editing → DoneAll
made_if_good input outputs kind p e =
    if is_bad e then DoneAll.refuses input BadBlock else DoneAll.makes outputs (file_of kind p e) e.shape.frames

abbrev pub made_of : List ℕ → List (List ℕ) → Kind → Parameters → Editing → DoneAll
made_of input outputs kind p e =
    if is_full kind p e.shape.frames then DoneAll.refuses (slice_index_or outputs 0 []) ContainerFull else made_if_good input outputs kind p e

-- ---- what is refused

-- an output has the kind, the rate and the codec of the input, and one channel; blocks of ADPCM have the size that this library gives
-- them
abbrev pub done_as : List ℕ → List (List ℕ) → Editing → Result Parameters OpenRefusal → DoneAll
done_as input outputs e (Err why) = DoneAll.refuses (slice_index_or outputs 0 []) (Open why)
done_as input outputs e (Ok p) = made_of input outputs e.shape.kind p e

-- there is one output for each channel
abbrev pub done_counted : List ℕ → List (List ℕ) → Editing → DoneAll
done_counted input outputs e =
    if length outputs == e.shape.params.channels then done_as input outputs e (params_like e.shape.kind 1 e.shape.params) else DoneAll.refuses input WrongCount

abbrev pub done_with : List ℕ → List (List ℕ) → Result Editing Refusal → DoneAll
done_with input outputs (Err why) = DoneAll.refuses input why
done_with input outputs (Ok e) = done_counted input outputs e

-- whether the output at a place has the input's name, or that of an earlier output; and the first place of which that holds
abbrev pub is_same_at : List ℕ → List (List ℕ) → ℕ → Bool
is_same_at input outputs at = list_any (bytes_eq (slice_index_or outputs at [])) (input ∷ take at outputs)

unfoldable pub first_same : List ℕ → List (List ℕ) → Option ℕ
first_same input outputs = find (is_same_at input outputs) (range_with_len 0 (length outputs))

abbrev pub done_if_apart : List ℕ → List (List ℕ) → Files → Option ℕ → DoneAll
done_if_apart input outputs files (Some at) = DoneAll.refuses (slice_index_or outputs at []) SameName
done_if_apart input outputs files None = done_with input outputs (input_in (files input))

abbrev pub deinterleaved : List ℕ → List (List ℕ) → Files → DoneAll
deinterleaved input outputs files = done_if_apart input outputs files (first_same input outputs)
