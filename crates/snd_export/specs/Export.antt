-- What `export` does: the whole file that it makes, or what it refuses, and why. It refuses in this order: equal names; an input that
-- is missing or is not opened; more than one channel, where VOX is made; more bytes than a file can have; and an input that has a bad
-- block.
use Rattle.std.specs.Prelude.{ℕ, ℤ, ◌+◌, ◌*◌, ◌/◌, ◌^◌, ◌==◌, Bool, true, false, ◌&&◌, not, List, ◌++◌, Result, Ok, Err, length, nat_le, if◌then◌else◌}
use Rattle.std.specs.Str.{bytes_eq}
use Rattle.snd_disk.specs.Shelf.{Files}
use Rattle.snd_fields.specs.declared.field.Order.TheVariants.{Little, Big}
use Rattle.snd_vox.specs.Vox.{vox_file}
use Rattle.snd_inputs.specs.Inputs.{input_in, is_bad}
use Rattle.snd_layout.specs.Blocks.{block_align}
use Rattle.snd_layout.specs.Params.{Parameters}
use Rattle.snd_layout.specs.Shape.{Shape}
use Rattle.snd_layout.specs.declared.codec.Codec.{Codec}
use Rattle.snd_layout.specs.declared.codec.Codec.TheVariants.{U8, S8, S16, S24, S32, Ima, Ms}
use Rattle.snd_lines.specs.declared.refusal.Refusal.{Refusal}
use Rattle.snd_lines.specs.declared.refusal.Refusal.TheVariants.{BadBlock, ContainerFull, NotMono, SameName}
use Rattle.snd_edits.specs.Editing.{Editing}
use Rattle.snd_output.specs.Appended.{coded_in}
use Rattle.snd_output.specs.Widths.{change_numbers, joined}
use Rattle.snd_pvf.specs.Pvf.{pvf_text}
use Rattle.snd_tools.specs.Done.{Done}
use Rattle.snd_words.specs.declared.raw.ExportForm.{ExportForm}
use Rattle.snd_words.specs.declared.raw.ExportForm.TheVariants.{Raw, Vox, Pvf}

-- ---- the codec of the samples

-- without a head they have the codec of the input; those of ADPCM have 16 bits, the lowest byte first
abbrev pub raw_codec : Codec → Codec
raw_codec (Ima align per_block) = S16 Little
raw_codec (Ms align per_block) = S16 Little
raw_codec codec = codec

-- PVF has samples in two's complement, the highest byte first: of 8 bits where the input's have 8, of 32 where they have 24 or 32, and
-- else of 16. Those of the laws have 16.
abbrev pub pvf_codec : Codec → Codec
pvf_codec U8 = S8
pvf_codec S8 = S8
pvf_codec (S24 order) = S32 Big
pvf_codec (S32 order) = S32 Big
pvf_codec codec = S16 Big

-- ---- the bytes

-- the numbers of all frames, in the width of a codec, and their samples in it
abbrev pub numbers_for : Codec → Editing → List ℤ
numbers_for codec e = change_numbers e.shape.params.codec codec (joined e.frames)

abbrev pub samples_for : Codec → Editing → List ℕ
samples_for codec e = coded_in codec (numbers_for codec e)

-- the head of a PVF file of some parameters
abbrev pub pvf_head_of : Parameters → List ℕ
pvf_head_of p = pvf_text (record p { codec = pvf_codec p.codec })

-- Raw: the samples alone. PVF: a head, and the samples. VOX: the codes of numbers of 16 bits, with a zero behind a last odd one.
abbrev pub bytes_made : ExportForm → Editing → List ℕ
bytes_made Raw e = samples_for (raw_codec e.shape.params.codec) e
bytes_made Pvf e = pvf_head_of e.shape.params ++ samples_for (pvf_codec e.shape.params.codec) e
bytes_made Vox e = vox_file (numbers_for (S16 Little) e)

-- how many they are, by the frames that a layout counts; VOX has two of one channel in each byte
abbrev pub sample_bytes : Codec → Shape → ℕ
sample_bytes codec h = h.frames * block_align h.params.channels codec

abbrev pub size_made : ExportForm → Shape → ℕ
size_made Raw h = sample_bytes (raw_codec h.params.codec) h
size_made Pvf h = length (pvf_head_of h.params) + sample_bytes (pvf_codec h.params.codec) h
size_made Vox h = (h.frames + 1) / 2

-- ---- what is refused

-- VOX has one channel
abbrev pub needs_mono : ExportForm → Bool
needs_mono Vox = true
needs_mono form = false

abbrev pub has_too_many : ExportForm → Shape → Bool
has_too_many form h = needs_mono form && not (h.params.channels == 1)

-- a file has at most 2^63 - 1 bytes
abbrev pub is_too_long : ExportForm → Shape → Bool
is_too_long form h = nat_le (2 ^ 63) (size_made form h)

-- ---- what is done

abbrev pub exported_good : ExportForm → List ℕ → List ℕ → Editing → Done
exported_good form input output e =
    if is_bad e then Done.refuses input BadBlock else Done.makes output (bytes_made form e) e.shape.frames

abbrev pub exported_file : ExportForm → List ℕ → List ℕ → Editing → Done
exported_file form input output e =
    if has_too_many form e.shape
    then Done.refuses input NotMono
    else (if is_too_long form e.shape then Done.refuses output ContainerFull else exported_good form input output e)

abbrev pub exported_with : ExportForm → List ℕ → List ℕ → Result Editing Refusal → Done
exported_with form input output (Err why) = Done.refuses input why
exported_with form input output (Ok e) = exported_file form input output e

-- `export FORM INPUT OUTPUT`
abbrev pub exported : ExportForm → List ℕ → List ℕ → Files → Done
exported form input output files =
    if bytes_eq input output then Done.refuses output SameName else exported_with form input output (input_in (files input))
