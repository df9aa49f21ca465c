-- What `salvage` does: the whole file that it makes, or what it refuses. It refuses in this order: equal names; an input that is
-- missing, in which there is no good format, or no data behind it; and more data than the head has room for. Which formats are
-- good, and that no size is believed but that of the format, is said where they are sought; that a tail which is no whole frame is
-- left out is this library's own rule.
use Rattle.std.specs.Prelude.{ℕ, ℤ, ◌*◌, ◌/◌, List, [], Option, None, Some, Result, Ok, Err, length, take, if◌then◌else◌}
use Rattle.std.specs.Str.{bytes_eq}
use Rattle.snd_disk.specs.Shelf.{Files}
use Rattle.snd_layout.specs.Blocks.{block_align}
use Rattle.snd_layout.specs.Params.{Parameters}
use Rattle.snd_layout.specs.declared.kind.Kind.TheVariants.{Wave}
use Rattle.snd_layout.specs.declared.refusal.OpenRefusal.{OpenRefusal}
use Rattle.snd_edits.specs.Bytes.{numbers_in}
use Rattle.snd_inputs.specs.Rooms.{is_full}
use Rattle.snd_lines.specs.declared.refusal.Refusal.TheVariants.{ContainerFull, MissingFile, Open, SameName}
use Rattle.snd_output.specs.Made.{made_file}
use Rattle.snd_search.specs.Search.{Found}
use Rattle.snd_search.specs.Sought.{counted, sought_in}
use Rattle.snd_tools.specs.Done.{Done}

-- how many whole frames bytes are, the bytes of these, and their numbers
abbrev pub frame_count : Parameters → List ℕ → ℕ
frame_count p bytes = length bytes / block_align p.channels p.codec

abbrev pub whole_frames : Parameters → List ℕ → List ℕ
whole_frames p bytes = take (frame_count p bytes * block_align p.channels p.codec) bytes

abbrev pub numbers_of : Parameters → List ℕ → List ℤ
numbers_of p bytes = numbers_in p.codec (whole_frames p bytes)

-- a WAVE file with these parameters and so many frames of these numbers, without further chunks; or its head has no room for them
abbrev pub made_with : List ℕ → Parameters → ℕ → List ℤ → Done
made_with output p frames xs = if is_full Wave p frames then Done.refuses output ContainerFull else Done.makes output (made_file Wave p [] xs) frames

abbrev pub made_of : List ℕ → Parameters → List ℕ → Done
made_of output p bytes = made_with output p (frame_count p bytes) (numbers_of p bytes)

abbrev pub made_from : List ℕ → List ℕ → Result Found OpenRefusal → Done
made_from input output (Err why) = Done.refuses input (Open why)
made_from input output (Ok sound) = made_of output sound.params sound.rest

abbrev pub done_with : List ℕ → List ℕ → Option (List ℕ) → Done
done_with input output None = Done.refuses input MissingFile
done_with input output (Some b) = made_from input output (sought_in (counted b))

abbrev pub salvaged : List ℕ → List ℕ → Files → Done
salvaged input output files = if bytes_eq input output then Done.refuses output SameName else done_with input output (files input)
