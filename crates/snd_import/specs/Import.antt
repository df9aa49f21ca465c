-- What `import` does: the whole file that it makes, or what it refuses. It refuses in this order: equal names; an unknown suffix of
-- the output; an input that is missing, or what its words or its head state of it; what it is to become; and more data than the head
-- has room for. That a tail which is no whole frame is left out, and the codecs, are this library's own rules.
use Rattle.std.specs.Prelude.{ℕ, ◌+◌, ◌-◌, ◌*◌, ◌/◌, ℤ, List, [], Option, Some, None, Result, Ok, Err, drop, length, take, if◌then◌else◌}
use Rattle.std.specs.Str.{bytes_eq}
use Rattle.snd_disk.specs.Shelf.{Files}
use Rattle.snd_fields.specs.declared.field.Order.TheVariants.{Little}
use Rattle.snd_vox.specs.Vox.{vox_sound}
use Rattle.snd_layout.specs.Blocks.{block_align}
use Rattle.snd_layout.specs.Kinds.{eight_bits, own_order}
use Rattle.snd_layout.specs.Params.{Parameters, params_of}
use Rattle.snd_layout.specs.declared.codec.Codec.{Codec}
use Rattle.snd_layout.specs.declared.codec.Codec.TheVariants as codec
use Rattle.snd_layout.specs.declared.kind.Kind.{Kind}
use Rattle.snd_layout.specs.declared.refusal.OpenRefusal.{OpenRefusal}
use Rattle.snd_edits.specs.Bytes.{numbers_in}
use Rattle.snd_inputs.specs.Rooms.{is_full}
use Rattle.snd_lines.specs.declared.refusal.Refusal.{Refusal}
use Rattle.snd_lines.specs.declared.refusal.Refusal.TheVariants.{ContainerFull, MissingFile, Open, SameName, UnknownSuffix}
use Rattle.snd_output.specs.Codecs.{fitting}
use Rattle.snd_output.specs.Made.{made_file}
use Rattle.snd_output.specs.Widths.{change_numbers}
use Rattle.snd_pvf.specs.Pvf.{pvf_head}
use Rattle.snd_pvf.specs.declared.head.Head.{Head}
use Rattle.snd_tools.specs.Done.{Done}
use Rattle.snd_words.specs.Suffix.{kind_by_suffix}
use Rattle.snd_words.specs.declared.raw.ImportForm.{ImportForm}
use Rattle.snd_words.specs.declared.raw.ImportForm.TheVariants.{Raw, Vox, Pvf}
use Rattle.snd_import.specs.declared.source.Coding.{Coding}
use Rattle.snd_import.specs.declared.source.Coding.TheVariants.{Samples, Codes}
use Rattle.snd_import.specs.declared.source.Source.{Source}

-- ---- what a file holds

-- samples of a codec, in a file of so many bytes: the whole frames from a place on
abbrev pub samples_at : ℕ → ℕ → Parameters → Source
samples_at start size p = record { params = p; coding = Samples; start = start; frames = (size - start) / block_align p.channels p.codec }

abbrev pub samples_from : ℕ → ℕ → Result Parameters OpenRefusal → Result Source OpenRefusal
samples_from start size (Err why) = Err why
samples_from start size (Ok p) = Ok (samples_at start size p)

-- those of a file without a head
abbrev pub raw_source : Codec → ℕ → ℕ → ℕ → Result Source OpenRefusal
raw_source codec channels rate size = samples_from 0 size (params_of channels rate codec)

-- Dialogic's codes: one channel, two frames a byte, and numbers of 16 bits
abbrev pub codes_in : ℕ → Result Parameters OpenRefusal → Result Source OpenRefusal
codes_in size (Err why) = Err why
codes_in size (Ok p) = Ok (record { params = p; coding = Codes; start = 0; frames = 2 * size })

abbrev pub vox_source : ℕ → ℕ → Result Source OpenRefusal
vox_source rate size = codes_in size (params_of 1 rate (codec.S16 Little))

-- what the head of a PVF file says, and the samples behind it
abbrev pub pvf_source : ℕ → Result Head OpenRefusal → Result Source OpenRefusal
pvf_source size (Err why) = Err why
pvf_source size (Ok h) = Ok (samples_at h.start size h.params)

-- what the bytes of a file hold in a form, or why they are refused
abbrev pub source_in : ImportForm → List ℕ → Result Source OpenRefusal
source_in (Raw codec channels rate) b = raw_source codec channels rate (length b)
source_in (Vox rate) b = vox_source rate (length b)
source_in Pvf b = pvf_source (length b) (pvf_head b)

-- how many bytes so many of its frames have
abbrev pub bytes_in : Coding → Parameters → ℕ → ℕ
bytes_in Samples p frames = frames * block_align p.channels p.codec
bytes_in Codes p frames = frames / 2

-- the numbers that bytes hold
abbrev pub sound_in : Coding → Codec → List ℕ → List ℤ
sound_in Samples codec bytes = numbers_in codec bytes
sound_in Codes codec bytes = vox_sound bytes

-- those of all frames
abbrev pub numbers_of : Source → List ℕ → List ℤ
numbers_of s b = sound_in s.coding s.params.codec (take (bytes_in s.coding s.params s.frames) (drop s.start b))

-- ---- what it becomes

-- the codec of the same class in a kind, and the parameters of a file of that kind: as `convert` has them where no option is set
abbrev pub class_in : Kind → Codec → Codec
class_in kind codec.U8 = eight_bits kind
class_in kind codec.S8 = eight_bits kind
class_in kind (codec.S16 order) = codec.S16 (own_order kind)
class_in kind (codec.S24 order) = codec.S24 (own_order kind)
class_in kind (codec.S32 order) = codec.S32 (own_order kind)
class_in kind other = other

abbrev pub params_for : Kind → Parameters → Result Parameters OpenRefusal
params_for kind p = fitting kind (params_of p.channels p.rate (class_in kind p.codec))

-- a file of a kind with these parameters, without further chunks: each number in the width of its codec
abbrev pub file_made : Kind → Parameters → Source → List ℕ → List ℕ
file_made kind p s b = made_file kind p [] (change_numbers s.params.codec p.codec (numbers_of s b))

-- ---- what is done

abbrev pub made_in : List ℕ → Kind → Source → List ℕ → Result Parameters OpenRefusal → Done
made_in output kind s b (Err why) = Done.refuses output (Open why)
made_in output kind s b (Ok p) = if is_full kind p s.frames then Done.refuses output ContainerFull else Done.makes output (file_made kind p s b) s.frames

abbrev pub made_from : List ℕ → List ℕ → Kind → List ℕ → Result Source OpenRefusal → Done
made_from input output kind b (Err why) = Done.refuses input (Open why)
made_from input output kind b (Ok s) = made_in output kind s b (params_for kind s.params)

abbrev pub done_with : ImportForm → List ℕ → List ℕ → Kind → Option (List ℕ) → Done
done_with form input output kind None = Done.refuses input MissingFile
done_with form input output kind (Some b) = made_from input output kind b (source_in form b)

abbrev pub done_into : ImportForm → List ℕ → List ℕ → Option Kind → Files → Done
done_into form input output None files = Done.refuses output UnknownSuffix
done_into form input output (Some kind) files = done_with form input output kind (files input)

abbrev pub imported : ImportForm → List ℕ → List ℕ → Files → Done
imported form input output files =
    if bytes_eq input output then Done.refuses output SameName else done_into form input output (kind_by_suffix output) files
