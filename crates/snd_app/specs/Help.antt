-- The texts of `--help`, of `COMMAND --help` and of `--version`, made of the same parts.
use Rattle.std.specs.Prelude.{ℕ, ◌-◌, List, [], ◌∷◌, ◌++◌, length, replicate, codes, map}
use Rattle.snd_words.specs.declared.topic.Topic.{Topic}
use Rattle.snd_words.specs.declared.topic.Topic.TheVariants.{Info, Convert, Concat, Interleave, SetMetadata, Generate, Import, Export, Salvage, Deinterleave, Script}

-- a form of the words, or an option, and what it does
pub record Entry : Type 0 where
  pub words : List ℕ
  pub does : List ℕ

abbrev pub entry : List ℕ → List ℕ → Entry
entry words does = record { words = words; does = does }

-- lines of a text, each with its end
abbrev pub lines : List (List ℕ) → List ℕ
lines [] = []
lines (line ∷ rest) = line ++ 10 ∷ lines rest

-- a line of two columns, of which the second begins at a place
abbrev pub columns : ℕ → Entry → List ℕ
columns width it = codes "  " ++ it.words ++ replicate (width - length it.words) 32 ++ it.does

-- all that stands on rows, one row after the other
abbrev pub all_in : List (List Entry) → List Entry
all_in [] = []
all_in (row ∷ rows) = row ++ all_in rows

-- words with spaces between them
abbrev pub spaced : List (List ℕ) → List ℕ
spaced [] = []
spaced (word ∷ []) = word
spaced (word ∷ other ∷ rest) = word ++ 32 ∷ spaced (other ∷ rest)

-- the forms of a command's words
abbrev pub forms : Topic → List Entry
forms Info = entry (codes "snd info NAME..") (codes "describe 1 to 64 sound files") ∷ []
forms Convert = entry (codes "snd convert [OPTION..] IN OUT") (codes "copy into another container or codec") ∷ []
forms Concat = entry (codes "snd concat IN IN.. OUT") (codes "join 2 to 64 files, one after the other") ∷ []
forms Interleave = entry (codes "snd interleave IN IN.. -o OUT") (codes "join 2 to 64 mono files, as channels") ∷ []
forms Deinterleave = entry (codes "snd deinterleave IN OUT..") (codes "split channels into 1 to 64 mono files") ∷ []
forms SetMetadata = entry (codes "snd metadata-set OPTION TEXT.. IN OUT") (codes "copy WAVE or RF64 with other texts") ∷ []
forms Generate = entry (codes "snd gen SEED N NAME") (codes "make a file of N frames, and edit it") ∷ []
forms Import = entry (codes "snd import raw CODEC N N IN OUT") (codes "make a file of samples without a head") ∷ entry (codes "snd import vox N IN OUT") (codes "make a file of Dialogic VOX") ∷ entry (codes "snd import pvf IN OUT") (codes "make a file of PVF") ∷ []
forms Export = entry (codes "snd export raw IN OUT") (codes "write the samples without a head") ∷ entry (codes "snd export vox IN OUT") (codes "write Dialogic VOX") ∷ entry (codes "snd export pvf IN OUT") (codes "write PVF") ∷ []
forms Salvage = entry (codes "snd salvage IN OUT") (codes "rescue the sound of a damaged file") ∷ []
forms Script = entry (codes "snd script") (codes "carry out commands on standard input") ∷ entry (codes "snd script --auto NAME") (codes "the same, with a file kept up to date") ∷ []

-- what there is to say of it
abbrev pub notes : Topic → List (List ℕ)
notes Info = codes "Prints of each file its kind, codec, channels, rate, frames and duration, and" ∷ codes "then its metadata chunks and the texts of its INFO list." ∷ []
notes Convert = codes "Makes OUT, or replaces it whole; its suffix names the kind." ∷ []
notes Concat = codes "OUT takes kind, codec, channels and rate from the first IN, not from its suffix." ∷ []
notes Interleave = codes "OUT takes kind, codec and rate from the first IN, not from its suffix." ∷ []
notes Deinterleave =
    codes "Each OUT is the mono file of one channel of IN, in their order. It takes kind," ∷ codes "codec and rate from IN, not from its suffix." ∷ []
notes SetMetadata = codes "Each option takes the word after it as its text." ∷ []
notes Generate = codes "The same SEED (0 to 4294967295) and N (1 to 10000000) make the same WAVE file." ∷ []
notes Import = codes "Makes OUT, or replaces it whole; its suffix names the kind." ∷ []
notes Export = codes "Makes OUT, or replaces it whole, under any name." ∷ []
notes Salvage =
    codes "OUT is a WAVE file of all frames behind the first format and the first data" ∷ codes "behind it in IN, whatever the sizes in its head say." ∷ []
notes Script = codes "One command stands on each line, and each is answered before the next is read." ∷ []

-- its options, as they stand on the lines of `--help`; or the forms of the files that it reads or makes
abbrev pub option_rows : Topic → List (List Entry)
option_rows Info = []
option_rows Convert =
    (entry (codes "-pcmu8") (codes "linear samples of 8 bits, unsigned") ∷ entry (codes "-pcms8") (codes "linear samples of 8 bits, signed") ∷ entry (codes "-pcm16") (codes "linear samples of 16 bits") ∷ entry (codes "-pcm24") (codes "linear samples of 24 bits") ∷ entry (codes "-pcm32") (codes "linear samples of 32 bits") ∷ [])
    ∷ (entry (codes "-ulaw") (codes "G.711 mu-law") ∷ entry (codes "-alaw") (codes "G.711 A-law") ∷ entry (codes "-ima-adpcm") (codes "IMA ADPCM, in WAVE and Wave64") ∷ entry (codes "-ms-adpcm") (codes "Microsoft ADPCM, in WAVE and Wave64") ∷ [])
    ∷ (entry (codes "-endian=little") (codes "the lowest byte of a sample first") ∷ entry (codes "-endian=big") (codes "the highest byte of a sample first") ∷ entry (codes "-override-sample-rate=N") (codes "a rate that OUT states; no sample changes") ∷ entry (codes "-rack=SPEC") (codes "change the frames on the way") ∷ []) ∷ []
option_rows Concat = []
option_rows Interleave =
    (entry (codes "-o OUT") (codes "the file to make; it stands last") ∷ []) ∷ []
option_rows Deinterleave = []
option_rows SetMetadata =
    (entry (codes "--str-title") (codes "title, at most 1024 bytes, as the five below") ∷ entry (codes "--str-artist") (codes "artist") ∷ entry (codes "--str-comment") (codes "comment") ∷ entry (codes "--str-copyright") (codes "copyright") ∷ [])
    ∷ (entry (codes "--str-date") (codes "date") ∷ entry (codes "--str-album") (codes "album") ∷ entry (codes "--bext-description") (codes "description, at most 256 bytes") ∷ entry (codes "--bext-originator") (codes "originator, at most 32 bytes") ∷ [])
    ∷ (entry (codes "--bext-orig-ref") (codes "reference of the originator, at most 32 bytes") ∷ entry (codes "--bext-orig-date") (codes "date of origin, at most 10 bytes") ∷ entry (codes "--bext-orig-time") (codes "time of origin, at most 8 bytes") ∷ [])
    ∷ (entry (codes "--bext-time-ref") (codes "place on the time line, as a number of samples") ∷ entry (codes "--bext-coding-hist") (codes "coding history, at most 1024 bytes") ∷ []) ∷ []
option_rows Generate = []
option_rows Import =
    (entry (codes "raw CODEC N N") (codes "samples without a head: their codec, channels, rate") ∷ entry (codes "vox N") (codes "Dialogic VOX, one channel of 16 bits: its rate") ∷ entry (codes "pvf") (codes "PVF, whose head says all") ∷ []) ∷ []
option_rows Export =
    (entry (codes "raw") (codes "samples in the codec of IN; of ADPCM pcm_16_le") ∷ entry (codes "vox") (codes "Dialogic VOX, of one channel") ∷ entry (codes "pvf") (codes "PVF of 8, 16 or 32 bits") ∷ []) ∷ []
option_rows Salvage = []
option_rows Script =
    (entry (codes "--auto NAME") (codes "keep this file open, and up to date after each line") ∷ []) ∷ []

-- what the text of an option is made of, or which words may stand for one
abbrev pub part_lines : Topic → List (List ℕ)
part_lines Convert =
    []
    ∷ codes "SPEC is 1 to 8 stages with commas between, which each frame passes in turn:"
    ∷ map (columns 26) (entry (codes "gain:A/B") (codes "multiply by A/B (A 0 to 65535, B 1 to 65535)") ∷ entry (codes "invert") (codes "turn the sign of each sample") ∷ entry (codes "map:I.J..") (codes "take the channels I, J .., counted from 0") ∷ entry (codes "fade:N") (codes "rise from silence over N frames") ∷ [])
part_lines Import =
    []
    ∷ codes "CODEC is one of these:"
    ∷ codes "  pcm_u8 pcm_s8 pcm_16_le pcm_16_be pcm_24_le pcm_24_be pcm_32_le pcm_32_be"
    ∷ codes "  ulaw alaw" ∷ []
part_lines other = []

abbrev pub example : Topic → List ℕ
example Info = codes "snd info take1.wav take2.wav"
example Convert = codes "snd convert -pcm24 take1.wav take1.au"
example Concat = codes "snd concat take1.wav take2.wav both.wav"
example Interleave = codes "snd interleave left.wav right.wav -o stereo.wav"
example Deinterleave = codes "snd deinterleave stereo.wav left.wav right.wav"
example SetMetadata = codes "snd metadata-set --str-title Dawn take1.wav dawn.wav"
example Generate = codes "snd gen 0 44100 noise.wav"
example Import = codes "snd import raw pcm_16_le 2 48000 take1.raw take1.wav"
example Export = codes "snd export raw take1.wav take1.raw"
example Salvage = codes "snd salvage broken.wav saved.wav"
example Script = codes "printf 'open r take1.wav\\nread 2\\n' | snd script"

-- `COMMAND --help`: the forms of the command, a line for each option and for what its text is made of, and an example
abbrev pub usages : List Entry → List (List ℕ)
usages [] = []
usages (form ∷ others) = (codes "Usage: " ++ form.words) ∷ map (λ it. codes "       " ++ it.words) others

abbrev pub option_lines : List Entry → List (List ℕ)
option_lines [] = []
option_lines options = [] ∷ map (columns 26) options

abbrev pub usage_of : Topic → List ℕ
usage_of topic = lines (usages (forms topic) ++ notes topic ++ option_lines (all_in (option_rows topic)) ++ part_lines topic ++ [] ∷ (codes "Example: " ++ example topic) ∷ [])

abbrev pub convert_usage : List ℕ
convert_usage = usage_of Convert

abbrev pub deinterleave_usage : List ℕ
deinterleave_usage = usage_of Deinterleave

abbrev pub metadata_usage : List ℕ
metadata_usage = usage_of SetMetadata

abbrev pub import_usage : List ℕ
import_usage = usage_of Import

abbrev pub export_usage : List ℕ
export_usage = usage_of Export

-- `--help`: the forms of all commands, the options of two by their names, and what names and files can be
abbrev pub all_forms : List Entry
all_forms =
    forms Info ++ forms Convert ++ forms Concat ++ forms Interleave ++ forms Deinterleave ++ forms SetMetadata ++ forms Generate ++ forms Import ++ forms Export ++ forms Salvage
    ++ forms Script ++ entry (codes "snd COMMAND --help") (codes "print what one command takes") ∷ entry (codes "snd --help") (codes "print this text") ∷ entry (codes "snd --version") (codes "print the version") ∷ []

abbrev pub names_in : List Entry → List ℕ
names_in row = spaced (map (λ it. it.words) row)

abbrev pub titled : List ℕ → List (List Entry) → List (List ℕ)
titled title [] = []
titled title (row ∷ rows) = (codes "Options of " ++ title ++ codes ": " ++ names_in row) ∷ map (λ it. codes "    " ++ names_in it) rows

abbrev pub option_names : List ℕ → Topic → List (List ℕ)
option_names command topic = [] ∷ titled command (option_rows topic)

abbrev pub kinds_and_codecs : List (List ℕ)
kinds_and_codecs =
    []
    ∷ codes "Options stand before the names, each of them once at most."
    ∷ codes "Suffixes of OUT: wav rf64 w64 au snd voc svx 8svx nist sph"
    ∷ codes "Kinds: wave rf64 w64 au dns voc svx sphere"
    ∷ codes "Codecs: pcm_u8 pcm_s8 pcm_16_le pcm_16_be pcm_24_le pcm_24_be pcm_32_le"
    ∷ codes "        pcm_32_be ulaw alaw ima ms"
    ∷ codes "Names: 1 to 255 printable ASCII characters, no space; no leading - here"
    ∷ []
    ∷ codes "The manual page tells more: man snd, or man -l docs/snd.1" ∷ []

abbrev pub usage : List ℕ
usage = lines (codes "Usage: snd COMMAND" ∷ [] ∷ [] ++ map (columns 39) all_forms ++ option_names (codes "convert") Convert ++ option_names (codes "metadata-set") SetMetadata ++ kinds_and_codecs)

-- `--version`
abbrev pub version : List ℕ
version = codes "snd 0.1.0\n"
