-- Further chunks, texts, fields and cue points as they are printed. The lines are this library's own.
use Rattle.std.specs.Prelude.{ℕ, ◌+◌, ◌/◌, ◌%◌, ◌==◌, Bool, ◌&&◌, List, [], ◌∷◌, ◌++◌, map, codes, decimal, nat_le, nat_lt, if◌then◌else◌}
use Rattle.std.specs.List.{flat_map}
use Rattle.snd_layout.specs.declared.piece.Piece.{Piece}
use Rattle.snd_meta.specs.Broadcast.{Broadcast}
use Rattle.snd_meta.specs.Info.{Entry}
use Rattle.snd_meta.specs.declared.bext.BextKey.{BextKey}
use Rattle.snd_meta.specs.declared.bext.BextKey.TheVariants.{Description, Originator, OrigRef, OrigDate, OrigTime, TimeRef, CodingHist}
use Rattle.snd_meta.specs.declared.cue.CuePoint.{CuePoint}
use Rattle.snd_meta.specs.declared.info.InfoKey.{InfoKey}
use Rattle.snd_meta.specs.declared.info.InfoKey.TheVariants.{Title, Copyright, Software, Artist, Comment, Date, Album, Genre, Track}

-- from '!' to '~'
abbrev pub is_printed : ℕ → Bool
is_printed c = nat_le 33 c && nat_le c 126

-- a key and its value, with a space between them and a line feed behind
abbrev pub line : List ℕ → List ℕ → List ℕ
line key value = key ++ 32 ∷ [] ++ value ++ 10 ∷ []

-- a byte of a printed text: '?' for what is neither printed nor a space
abbrev pub shown_in_text : ℕ → ℕ
shown_in_text c = if c == 32 then 32 else (if is_printed c then c else 63)

abbrev pub shown : List ℕ → List ℕ
shown text = map shown_in_text text

-- a byte of a printed identifier: '_' for a space, '?' for what is not printed
abbrev pub shown_in_id : ℕ → ℕ
shown_in_id c = if c == 32 then 95 else (if is_printed c then c else 63)

-- a chunk: its identifier, and how many bytes its body has
abbrev pub chunk_line : Piece → List ℕ
chunk_line piece = line (map shown_in_id piece.id.0) (decimal piece.len)

-- lines behind the same words each
abbrev pub behind_each : {T : Type 0} → List ℕ → (T → List ℕ) → List T → List ℕ
behind_each words one all = flat_map (λ x. words ++ one x) all

-- the word of a text of an INFO list
abbrev pub info_word : InfoKey → List ℕ
info_word Title = codes "title"
info_word Copyright = codes "copyright"
info_word Software = codes "software"
info_word Artist = codes "artist"
info_word Comment = codes "comment"
info_word Date = codes "date"
info_word Album = codes "album"
info_word Genre = codes "genre"
info_word Track = codes "track"

abbrev pub text_line : Entry → List ℕ
text_line entry = line (info_word entry.key) (shown entry.text)

-- the word of a field of a broadcast extension
abbrev pub bext_word : BextKey → List ℕ
bext_word Description = codes "description"
bext_word Originator = codes "originator"
bext_word OrigRef = codes "orig-ref"
bext_word OrigDate = codes "orig-date"
bext_word OrigTime = codes "orig-time"
bext_word TimeRef = codes "time-ref"
bext_word CodingHist = codes "coding-hist"

-- its seven lines
abbrev pub bext_lines : Broadcast → List ℕ
bext_lines b =
    line (bext_word Description) (shown b.description)
    ++ line (bext_word Originator) (shown b.originator)
    ++ line (bext_word OrigRef) (shown b.reference)
    ++ line (bext_word OrigDate) (shown b.date)
    ++ line (bext_word OrigTime) (shown b.time)
    ++ line (bext_word TimeRef) (decimal b.time_reference)
    ++ line (bext_word CodingHist) (shown b.history)

-- a cue point: its name and its sample offset
abbrev pub cue_line : CuePoint → List ℕ
cue_line point = line (decimal point.name) (decimal point.offset)

-- bytes as two lower-case hexadecimal digits each
abbrev pub hex_digit : ℕ → ℕ
hex_digit n = if nat_lt n 10 then 48 + n else 87 + n

abbrev pub hex_byte : ℕ → List ℕ
hex_byte b = hex_digit (b / 16) ∷ hex_digit (b % 16) ∷ []

abbrev pub hex_text : List ℕ → List ℕ
hex_text bytes = flat_map hex_byte bytes
