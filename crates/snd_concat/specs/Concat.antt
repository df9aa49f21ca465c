-- What `concat` does: the whole file that it makes, or what it refuses. It refuses in this order: equal names; an input that is
-- missing or is not opened; one whose channels or rate are not those of the first; what the output would be; more data than its head
-- has room for; and an input that has a bad block.
use Rattle.std.specs.Prelude.{ℕ, ℤ, Bool, ◌&&◌, ◌==◌, not, List, [], ◌∷◌, ◌++◌, Option, Some, None, Result, Ok, Err, flat_map, map, position, slice_index_or, sum_by, if◌then◌else◌}
use Rattle.snd_disk.specs.Shelf.{Files}
use Rattle.snd_inputs.specs.Inputs.{first_bad, inputs_in}
use Rattle.snd_inputs.specs.Rooms.{is_full}
use Rattle.snd_layout.specs.Params.{Parameters}
use Rattle.snd_layout.specs.Shape.{Shape}
use Rattle.snd_layout.specs.declared.codec.Codec.{Codec}
use Rattle.snd_layout.specs.declared.kind.Kind.{Kind}
use Rattle.snd_layout.specs.declared.refusal.OpenRefusal.{OpenRefusal}
use Rattle.snd_lines.specs.declared.refusal.Refusal.{Refusal}
use Rattle.snd_lines.specs.declared.refusal.Refusal.TheVariants.{BadBlock, ContainerFull, MissingFile, MixedParams, Open, SameName}
use Rattle.snd_edits.specs.Editing.{Editing}
use Rattle.snd_output.specs.Codecs.{params_like}
use Rattle.snd_output.specs.Made.{made_file}
use Rattle.snd_output.specs.Widths.{change_numbers, joined}
use Rattle.snd_tools.specs.Done.{Done}
use Rattle.snd_words.specs.Repeats.{first_repeated}

-- the numbers of all frames of some files, one file behind the other, each in the width of a codec
abbrev pub numbers_for : Codec → Editing → List ℤ
numbers_for codec e = change_numbers e.shape.params.codec codec (joined e.frames)

abbrev pub all_numbers : Codec → List Editing → List ℤ
all_numbers codec es = flat_map (numbers_for codec) es

-- their layouts, and how many frames these count
abbrev pub shapes_of : List Editing → List Shape
shapes_of es = map (λ e. e.shape) es

abbrev pub all_frames : List Shape → ℕ
all_frames hs = sum_by (λ h. h.frames) hs

-- the place of the first of them whose channels or rate are not the given ones
abbrev pub is_alike : Parameters → Parameters → Bool
is_alike p q = (p.channels == q.channels) && (p.rate == q.rate)

abbrev pub first_mixed : Parameters → List Shape → Option ℕ
first_mixed p hs = position (λ h. not (is_alike p h.params)) hs

-- a new file of a kind with these parameters, with all frames, without further chunks
abbrev pub made_if_good : List (List ℕ) → List ℕ → Kind → Parameters → List Editing → Option ℕ → Done
made_if_good inputs output kind p es (Some at) = Done.refuses (slice_index_or inputs at []) BadBlock
made_if_good inputs output kind p es None = Done.makes output (made_file kind p [] (all_numbers p.codec es)) (all_frames (shapes_of es))

abbrev pub made_of : List (List ℕ) → List ℕ → Kind → Parameters → List Editing → Done
made_of inputs output kind p es =
    if is_full kind p (all_frames (shapes_of es)) then Done.refuses output ContainerFull else made_if_good inputs output kind p es (first_bad es)

-- it has the kind and the parameters of the first, but that blocks of ADPCM have the size that this library gives them
abbrev pub done_as : List (List ℕ) → List ℕ → Kind → List Editing → Result Parameters OpenRefusal → Done
done_as inputs output kind es (Err why) = Done.refuses output (Open why)
done_as inputs output kind es (Ok p) = made_of inputs output kind p es

abbrev pub done_if_alike : List (List ℕ) → List ℕ → Shape → List Editing → Option ℕ → Done
done_if_alike inputs output h es (Some at) = Done.refuses (slice_index_or inputs at []) MixedParams
done_if_alike inputs output h es None = done_as inputs output h.kind es (params_like h.kind h.params.channels h.params)

-- It is made like the first. Where no inputs are named, which no words do, there is none.
abbrev pub done_like : List (List ℕ) → List ℕ → List Editing → Done
done_like inputs output [] = Done.refuses output MissingFile
done_like inputs output (first ∷ others) =
    done_if_alike inputs output first.shape (first ∷ others) (first_mixed first.shape.params (shapes_of (first ∷ others)))

abbrev pub done_with : List (List ℕ) → List ℕ → Result (List Editing) (List ℕ × Refusal) → Done
done_with inputs output (Err refused) = Done.refuses refused.0 refused.1
done_with inputs output (Ok es) = done_like inputs output es

-- the later of two equal names is named
abbrev pub done_if_apart : List (List ℕ) → List ℕ → Files → Option ℕ → Done
done_if_apart inputs output files (Some at) = Done.refuses (slice_index_or (inputs ++ output ∷ []) at []) SameName
done_if_apart inputs output files None = done_with inputs output (inputs_in files inputs)

abbrev pub concatenated : List (List ℕ) → List ℕ → Files → Done
concatenated inputs output files = done_if_apart inputs output files (first_repeated (inputs ++ output ∷ []))
