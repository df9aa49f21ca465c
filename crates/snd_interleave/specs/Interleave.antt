-- What `interleave` does: the whole file that it makes, or what it refuses. It refuses in this order: equal names; an input that is
-- missing or is not opened; one that has more channels than one, or another rate than the first; what the output would be; more data
-- than its head has room for; and an input that has a bad block.
use Rattle.std.specs.Prelude.{ℕ, ℤ, pos, ◌==◌, List, [], ◌∷◌, ◌++◌, Option, Some, None, Result, Ok, Err, get_or, length, map, slice_index_or, if◌then◌else◌}
use Rattle.snd_disk.specs.Shelf.{Files}
use Rattle.snd_inputs.specs.Inputs.{first_bad, inputs_in}
use Rattle.snd_inputs.specs.Rooms.{is_full}
use Rattle.snd_layout.specs.Params.{Parameters}
use Rattle.snd_layout.specs.Shape.{Shape}
use Rattle.snd_layout.specs.declared.codec.Codec.{Codec}
use Rattle.snd_layout.specs.declared.kind.Kind.{Kind}
use Rattle.snd_layout.specs.declared.refusal.OpenRefusal.{OpenRefusal}
use Rattle.snd_layout.specs.declared.refusal.OpenRefusal.TheVariants.{BadChannels}
use Rattle.snd_lines.specs.declared.refusal.Refusal.{Refusal}
use Rattle.snd_lines.specs.declared.refusal.Refusal.TheVariants.{BadBlock, ContainerFull, MixedParams, NotMono, Open, SameName}
use Rattle.snd_edits.specs.Editing.{Editing}
use Rattle.snd_output.specs.Codecs.{params_like}
use Rattle.snd_output.specs.Made.{made_file}
use Rattle.snd_output.specs.Widths.{change_numbers}
use Rattle.snd_tools.specs.Done.{Done}
use Rattle.snd_words.specs.Repeats.{first_repeated}
use Rattle.snd_interleave.specs.Beside.{longest, side_by_side}

-- ---- the file that is made

-- the numbers of a file of one channel, one in each frame
abbrev pub numbers_of : Editing → List ℤ
numbers_of e = map (λ frame. get_or frame 0 (pos 0)) e.frames

-- .. in the width of a codec; and those of several files
abbrev pub channel_in : Codec → Editing → List ℤ
channel_in codec e = change_numbers e.shape.params.codec codec (numbers_of e)

abbrev pub channels_in : Codec → List Editing → List (List ℤ)
channels_in codec es = map (channel_in codec) es

-- the file of a kind that has these as its channels, without further chunks
abbrev pub made_if_good : List (List ℕ) → List ℕ → Kind → Parameters → List (List ℤ) → Option ℕ → Done
made_if_good inputs output kind p channels (Some at) = Done.refuses (slice_index_or inputs at []) BadBlock
made_if_good inputs output kind p channels None = Done.makes output (made_file kind p [] (side_by_side channels)) (longest channels)

abbrev pub made_of : List (List ℕ) → List ℕ → Kind → Parameters → List Editing → Done
made_of inputs output kind p es =
    let channels = channels_in p.codec es in
    if is_full kind p (longest channels) then Done.refuses output ContainerFull else made_if_good inputs output kind p channels (first_bad es)

-- ---- what is refused

-- the output has the kind, the rate and the codec of the first input, and a channel for each; blocks of ADPCM have the size that
-- this library gives them
abbrev pub done_as : List (List ℕ) → List ℕ → Kind → List Editing → Result Parameters OpenRefusal → Done
done_as inputs output kind es (Err why) = Done.refuses output (Open why)
done_as inputs output kind es (Ok p) = made_of inputs output kind p es

-- why a file is no channel beside a first one
abbrev pub misfit : Parameters → Parameters → Option Refusal
misfit first p = if p.channels == 1 then (if p.rate == first.rate then None else Some MixedParams) else Some NotMono

-- the first of some files of which that is so
abbrev pub misfit_or : List ℕ → Option Refusal → Option (List ℕ × Refusal) → Option (List ℕ × Refusal)
misfit_or name (Some why) others = Some (name, why)
misfit_or name None others = others

abbrev pub first_misfit : Parameters → List (List ℕ) → List Shape → Option (List ℕ × Refusal)
first_misfit first (name ∷ names) (h ∷ hs) = misfit_or name (misfit first h.params) (first_misfit first names hs)
first_misfit first names hs = None

abbrev pub shapes_of : List Editing → List Shape
shapes_of es = map (λ e. e.shape) es

abbrev pub done_if_fit : List (List ℕ) → List ℕ → Kind → Parameters → List Editing → Option (List ℕ × Refusal) → Done
done_if_fit inputs output kind first es (Some refused) = Done.refuses refused.0 refused.1
done_if_fit inputs output kind first es None = done_as inputs output kind es (params_like kind (length es) first)

-- No words name no inputs. There would be no channels.
abbrev pub done_beside : List (List ℕ) → List ℕ → List Editing → Done
done_beside inputs output [] = Done.refuses output (Open BadChannels)
done_beside inputs output (first ∷ others) =
    let h = first.shape in
    done_if_fit inputs output h.kind h.params (first ∷ others) (first_misfit h.params inputs (shapes_of (first ∷ others)))

abbrev pub done_with : List (List ℕ) → List ℕ → Result (List Editing) (List ℕ × Refusal) → Done
done_with inputs output (Err refused) = Done.refuses refused.0 refused.1
done_with inputs output (Ok es) = done_beside inputs output es

-- the later of two equal names is named
abbrev pub done_if_apart : List (List ℕ) → List ℕ → Files → Option ℕ → Done
done_if_apart inputs output files (Some at) = Done.refuses (slice_index_or (inputs ++ output ∷ []) at []) SameName
done_if_apart inputs output files None = done_with inputs output (inputs_in files inputs)

abbrev pub interleaved : List (List ℕ) → List ℕ → Files → Done
interleaved inputs output files = done_if_apart inputs output files (first_repeated (inputs ++ output ∷ []))
