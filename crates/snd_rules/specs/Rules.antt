-- What each command does on an open file: why it is refused, and what it does where it is not.
use Rattle.std.specs.Prelude.{ℕ, ℤ, ◌+◌, ◌-◌, ◌*◌, ◌/◌, ◌%◌, ◌^◌, ◌==◌, Bool, true, false, not, ◌&&◌, ◌||◌, List, [], Option, None, Some, Result, Ok, Err, codes, is_none, length, min, int_le, nat_le, nat_lt, if◌then◌else◌}
use Rattle.std.specs.List.{list_all}
use Rattle.std.specs.Option.{unwrap_or}
use Rattle.snd_command.specs.Forms.{is_text}
use Rattle.snd_fields.specs.Decimal.{decimal}
use Rattle.snd_command.specs.Said.{Said}
use Rattle.snd_command.specs.declared.tables.CodecWord.{CodecWord}
use Rattle.snd_command.specs.declared.tables.CodecWord.TheVariants as word
use Rattle.snd_container.specs.Sound.{fixed_of}
use Rattle.snd_blocks.specs.Frames.{has_bad}
use Rattle.snd_layout.specs.Blocks.{block_align, block_frames, is_adpcm}
use Rattle.snd_layout.specs.Params.{Parameters, data_bytes}
use Rattle.snd_layout.specs.Shape.{Shape, room}
use Rattle.snd_layout.specs.declared.codec.Codec.{Codec}
use Rattle.snd_layout.specs.declared.codec.Codec.TheVariants as codec
use Rattle.snd_layout.specs.declared.kind.Kind.{Kind}
use Rattle.snd_layout.specs.declared.kind.Kind.TheVariants.{Voc}
use Rattle.snd_layout.specs.declared.piece.Piece.{Piece}
use Rattle.snd_layout.specs.declared.refusal.OpenRefusal.TheVariants.{TooManyChunks}
use Rattle.snd_meta.specs.Broadcast.{field_size}
use Rattle.snd_meta.specs.Cue.{cue_body, named}
use Rattle.snd_meta.specs.declared.bext.BextKey.{BextKey}
use Rattle.snd_meta.specs.declared.bext.BextKey.TheVariants.{TimeRef}
use Rattle.snd_meta.specs.declared.info.InfoKey.{InfoKey}
use Rattle.snd_meters.specs.Gauge.{Gauge}
use Rattle.snd_meters.specs.Gauges.{after_feed, after_start, after_stop, start_answer, stop_answer}
use Rattle.snd_meters.specs.Report.{report_line}
use Rattle.snd_edits.specs.declared.error.GetError.TheVariants as get
use Rattle.snd_edits.specs.Editing.{Editing, frames_left, frames_read, moved_by, moved_to}
use Rattle.snd_edits.specs.Edits.{automatic_to, moved_write_to, sealed_to, trimmed_to, truncated_to, written_to}
use Rattle.snd_edits.specs.Blocks.{ima_made, ms_made}
use Rattle.snd_edits.specs.Encoding.{encoded_to, known_encoded}
use Rattle.snd_edits.specs.Known.{Known}
use Rattle.snd_layout.specs.Kinds.{holds_meta, holds_pieces, is_reserved, is_wave}
use Rattle.snd_edits.specs.PieceCalls.{known_put}
use Rattle.snd_edits.specs.Pieces.{first_piece}
use Rattle.snd_edits.specs.Relaid.{added_to, place_named, replaced_to}
use Rattle.snd_edits.specs.WriteCalls.{end_written, is_whole_field, known_cut, known_sealed, known_trimmed, known_written}
use Rattle.snd_fields.specs.declared.field.Order.TheVariants.{Little}
use Rattle.snd_pcm.specs.Pcm.{high, low}
use Rattle.snd_pcm.specs.declared.linear.Linear.{Linear}
use Rattle.snd_pcm.specs.declared.linear.Linear.TheVariants.{S16}
use Rattle.snd_container.specs.Fixed.{range_form}
use Rattle.snd_container.specs.declared.fixed.Fixed.{Fixed}
use Rattle.snd_container.specs.declared.fixed.Fixed.TheVariants as fixed
use Rattle.snd_edits.specs.TagDrafts.{bext_timed, bext_with, info_with}
use Rattle.snd_edits.specs.TagsHeld.{broadcast_of, points_of, read_as, texts_of}
use Rattle.snd_edits.specs.declared.tag_error.TagError.{TagError}
use Rattle.snd_edits.specs.declared.tag_error.TagError.TheVariants.{Get, BadBody}
use Rattle.snd_taps.specs.declared.tap.TapKind.{TapKind}
use Rattle.snd_taps.specs.declared.tap.TapState.{TapState}
use Rattle.snd_chunks.specs.Heads.{new_piece}
use Rattle.snd_reservations.specs.States.{has_place, known_promoted, known_reserved, promoted_to, reserved_to}
use Rattle.snd_rules.specs.Desk.{Mode, encodes, encoding, frames_told, is_pinned, makes, pinned, reading, reads, updates, updating, writes, writing}
use Rattle.snd_rules.specs.Hex.{bytes_of_hex}
use Rattle.snd_rules.specs.Replies.{Answer, nothing, refuses, says, bext_text, body_text, chunks_text, described, done_line, frames_text, ok_line, points_text, texts_text}
use Rattle.snd_lines.specs.declared.refusal.Refusal.{Refusal}
use Rattle.snd_lines.specs.declared.refusal.Refusal.TheVariants.{AdpcmUpdate, PartFrame, SampleRange, SeekRange, TrailingData, ContainerFull, Straddle, FramesWritten, ReservedChunk, NoChunks, ChunkTooLarge, AutoOn, AdpcmSeek, NoSuchChunk, BadBlock, Open, BadCommand, AlreadyOpen, WrongMode, NoRoom, BadInfo, BadCue, BadBext, TextTooLong, Pinned}

-- ---- why a command is refused

-- what decides that over every disk: what the file says of itself, and what was done to it through this handle
pub record Grounds : Type 0 where
  pub shape : Shape
  pub write_place : ℕ
  pub automatic : Bool
  pub written : Bool

abbrev pub grounds_of : Editing → Grounds
grounds_of e = record { shape = e.shape; write_place = e.write_place; automatic = e.automatic; written = e.written }

abbrev pub known_grounds : Known → Grounds
known_grounds k = record { shape = k.shape; write_place = k.write_place; automatic = k.automatic; written = k.written }

abbrev pub refused_if : Bool → Refusal → Option Refusal → Option Refusal
refused_if so refusal else_by = if so then Some refusal else else_by

-- a frame past the end is sought
abbrev pub seek_refusal : ℕ → Shape → Option Refusal
seek_refusal n h = refused_if (nat_lt h.frames n) SeekRange None

-- each number lies in the range of a codec, which is that of 16 bits for ADPCM
abbrev pub is_between : Fixed → ℤ → Bool
is_between form x = int_le (low (range_form form)) x && int_le x (high (range_form form))

abbrev pub form_of : Option Fixed → Fixed
form_of None = fixed.Linear (S16 Little)
form_of (Some form) = form

abbrev pub are_between : Option Fixed → List ℤ → Bool
are_between form xs = list_all (is_between (form_of form)) xs

-- the end would move to this frame, and the file goes on behind its data, or its head has no room for them
abbrev pub growth_refusal : ℕ → Shape → Option Refusal
growth_refusal to h =
    if nat_lt h.frames to then refused_if h.trailing TrailingData (refused_if (nat_lt (room h) (data_bytes h.params to)) ContainerFull None) else None

-- numbers are written from a frame on
abbrev pub write_refusal : List ℤ → ℕ → Shape → Option Refusal
write_refusal xs place h =
    refused_if (nat_lt 0 (length xs % h.params.channels)) PartFrame
    (refused_if (not (are_between (fixed_of h.params.codec) xs)) SampleRange (growth_refusal (end_written xs h place) h))

-- numbers are given behind so many frames, to be made blocks: the head has no room for all blocks, or the count of a WAVE file
-- none for the number of the frames
abbrev pub lacks_room : ℕ → Shape → Bool
lacks_room to h = nat_lt (room h) (data_bytes h.params to) || (is_wave h.kind && nat_le (2 ^ 32) to)

abbrev pub blocks_refusal : ℕ → ℕ → Shape → Option Refusal
blocks_refusal place to h = refused_if (nat_lt place to && lacks_room to h) ContainerFull None

abbrev pub encode_refusal : List ℤ → ℕ → Shape → Option Refusal
encode_refusal xs place h =
    refused_if (nat_lt 0 (length xs % h.params.channels)) PartFrame
    (refused_if (not (are_between (fixed_of h.params.codec) xs)) SampleRange (blocks_refusal place (end_written xs h place) h))

-- the file is cut to so many frames, or cut behind its data
abbrev pub truncate_refusal : ℕ → Shape → Option Refusal
truncate_refusal n h = refused_if (nat_lt h.frames n) SeekRange (refused_if (nat_lt n h.frames && h.trailing) TrailingData None)

abbrev pub is_voc : Kind → Bool
is_voc Voc = true
is_voc kind = false

abbrev pub trim_refusal : Shape → Option Refusal
trim_refusal h = refused_if (h.trailing && not (is_voc h.kind)) TrailingData None

-- the file has no reservation for 64-bit sizes, or goes on behind its data
abbrev pub promote_refusal : Shape → Option Refusal
promote_refusal h = refused_if (is_none h.reserve) NoRoom (refused_if h.trailing TrailingData None)

-- updates become automatic, and the field that decides the count lies in two sectors
abbrev pub auto_refusal : Bool → Shape → Option Refusal
auto_refusal on h = refused_if (on && not (is_whole_field h)) Straddle None

-- ---- rules

-- what is answered, and the state of the file afterwards
pub record FileEdited : Type 0 where
  pub answer : Answer
  pub editing : Editing

abbrev pub says_of : List ℕ → Editing → FileEdited
says_of text e = record { answer = says text; editing = e }

abbrev pub answered : Answer → Editing → FileEdited
answered answer e = record { answer = answer; editing = e }

pub record Rule : Type 0 where
  -- why it is refused, where every disk leaves no doubt
  pub refusal : Grounds → Option Refusal
  -- what is done where it is not so refused; and what the handle knows once it was carried out, over every disk
  pub done : Editing → FileEdited
  pub known : Known → Known
  -- the frames that it says, and what it makes of the taps with them, in a file of a codec
  pub feeds : Editing → List (List ℤ)
  pub taps : Codec → List (List ℤ) → List Gauge → List Gauge
  -- which refusals only what stands on the disk decides, by what the file says of itself
  pub finds : Grounds → Refusal → Bool
  -- the chunk that is put with a body which the disk decides, where there is one
  pub puts : Option (List ℕ)
  -- whether it changes the file; and whether that is sealed before something else is done
  pub changes : Bool
  pub seals_first : Bool
  -- how many bytes are asked of the disk, and written, at most, on a file with these parameters
  pub asked : ℕ
  pub written : Parameters → ℕ
  -- whether it takes memory
  pub takes_memory : Bool

-- the rule of a command that says something and changes nothing
abbrev pub telling : (Editing → FileEdited) → (Known → Known) → Rule
telling done known = record {
  refusal = λ g. None;
  done = done;
  known = known;
  feeds = λ e. [];
  taps = λ codec frames taps. taps;
  finds = λ g refusal. false;
  puts = None;
  changes = false;
  seals_first = false;
  asked = 0;
  written = λ p. 0;
  takes_memory = false;
}

abbrev pub refused_rule : Refusal → Rule
refused_rule refusal = record (telling (answered nothing) (λ k. k)) { refusal = λ g. Some refusal }

-- a command that its mode lacks is refused first
abbrev pub in_mode : Bool → Rule → Rule
in_mode has rule = if has then rule else refused_rule WrongMode

-- .. or is done otherwise where frames are given to be made blocks
abbrev pub by_blocks : Bool → Rule → Rule → Rule
by_blocks encodes blocks frames = if encodes then blocks else frames

-- `info`: the line of the file
abbrev pub tell_rule : Mode → Rule
tell_rule mode = telling (λ e. says_of (described (frames_told mode e.shape e.write_place) e.shape.params e.shape.kind) e) (λ k. k)

-- `seek r`, `seek w` and `seek rw`: the frame to read next, the one to write next, and both
abbrev pub seek_read_rule : ℕ → Rule
seek_read_rule n = record (telling (λ e. says_of (ok_line n) (moved_to n e)) (λ k. record k { place = n })) { refusal = λ g. seek_refusal n g.shape }

abbrev pub seek_write_rule : ℕ → Rule
seek_write_rule n = record (telling (λ e. says_of (ok_line n) (moved_write_to n e)) (λ k. record k { write_place = n })) { refusal = λ g. seek_refusal n g.shape }

abbrev pub seek_both_rule : ℕ → Rule
seek_both_rule n = record (telling (λ e. says_of (ok_line n) (moved_write_to n (moved_to n e))) (λ k. record k { place = n; write_place = n })) { refusal = λ g. seek_refusal n g.shape }

-- `read`: as many frames as are wanted and are left, each of which is fed to the taps that are on. Where the block of one of them
-- is bad, which happens in ADPCM alone, the place stays and nothing is fed.
abbrev pub read_known : ℕ → Known → Known
read_known n k = record k { place = k.place + min n (k.shape.frames - k.place) }

abbrev pub frames_wanted : ℕ → Editing → List (List ℤ)
frames_wanted n e = frames_read e (frames_left e n)

abbrev pub read_edit : ℕ → Editing → FileEdited
read_edit n e =
    if has_bad (frames_wanted n e) then answered (refuses BadBlock) e else says_of (frames_text (frames_wanted n e)) (moved_by (frames_left e n) e)

abbrev pub frames_fed : ℕ → Editing → List (List ℤ)
frames_fed n e = if has_bad (frames_wanted n e) then [] else frames_wanted n e

abbrev pub finds_bad_block : Bool → Refusal → Bool
finds_bad_block in_blocks BadBlock = in_blocks
finds_bad_block in_blocks refusal = false

-- a frame has at most 1024 bytes; blocks have at most 8 for each frame, and the first and the last at most 8192
abbrev pub read_rule : ℕ → Rule
read_rule n = record (telling (read_edit n) (read_known n)) {
  feeds = frames_fed n;
  taps = λ codec frames taps. after_feed frames taps;
  finds = λ g. finds_bad_block (is_adpcm g.shape.params.codec);
  asked = 1024 * n + 16384;
  takes_memory = true;
}

-- `tap`: the first that waits of a kind begins, with the range of the numbers of the codec, which is that of 16 bits for the laws
-- and for ADPCM
abbrev pub range_of : Option Fixed → Linear
range_of None = S16 Little
range_of (Some form) = range_form form

abbrev pub tap_range : Codec → Linear
tap_range codec = range_of (fixed_of codec)

abbrev pub why_not : {T : Type 0} → Result T Refusal → Option Refusal
why_not (Ok x) = None
why_not (Err refusal) = Some refusal

abbrev pub tap_rule : List Gauge → TapKind → Rule
tap_rule taps kind = record (telling (says_of done_line) (λ k. k)) {
  refusal = λ g. why_not (start_answer kind taps);
  taps = λ codec frames taps. after_start kind (low (tap_range codec)) (high (tap_range codec)) taps;
}

-- `untap`: the one that is on reports, and is gone
abbrev pub report_of : TapKind → Result TapState Refusal → Answer
report_of kind (Ok state) = says (report_line kind state)
report_of kind (Err refusal) = refuses refusal

abbrev pub untap_rule : List Gauge → TapKind → Rule
untap_rule taps kind = record (telling (answered (report_of kind (stop_answer kind taps))) (λ k. k)) {
  refusal = λ g. why_not (stop_answer kind taps);
  taps = λ codec frames taps. after_stop kind taps;
}

-- a command that changes the file, with how many bytes it writes at most
abbrev pub changing : ℕ → (Grounds → Option Refusal) → (Editing → FileEdited) → (Known → Known) → Rule
changing written refusal done known = record (telling done known) { refusal = refusal; changes = true; written = λ p. written }

-- `write`: frames over others and past the end; a number has at most 4 bytes
abbrev pub write_rule : List ℤ → Rule
write_rule xs = changing (4 * length xs + 72) (λ g. write_refusal xs g.write_place g.shape) (λ e. says_of (ok_line (length xs / e.shape.params.channels)) (written_to xs e)) (known_written xs)

-- .. or behind all that were given, of which whole blocks reach the file: those that the frames of the numbers fill, and one more
abbrev pub most_blocks : ℕ → Parameters → ℕ
most_blocks numbers p = (numbers / p.channels / block_frames p.codec + 1) * block_align p.channels p.codec + 64

abbrev pub encode_edit : List ℤ → Editing → FileEdited
encode_edit xs e = says_of (ok_line (length xs / e.shape.params.channels)) (encoded_to xs e)

abbrev pub encode_rule : List ℤ → Rule
encode_rule xs = record (changing 0 (λ g. encode_refusal xs g.write_place g.shape) (encode_edit xs) (known_encoded xs)) { written = most_blocks (length xs) }

-- `truncate`: to so many frames
abbrev pub truncate_rule : ℕ → Rule
truncate_rule n = changing 72 (λ g. truncate_refusal n g.shape) (λ e. says_of (ok_line n) (truncated_to n e)) (known_cut n)

-- `trim`: all behind the data is cut off
abbrev pub trim_rule : Rule
trim_rule = record (changing 80 (λ g. trim_refusal g.shape) (λ e. says_of (ok_line e.shape.frames) (trimmed_to e)) known_trimmed) { seals_first = true }

-- `update`: the head is brought up to the frames
abbrev pub update_rule : Rule
update_rule = changing 64 (λ g. None) (λ e. says_of (ok_line e.shape.frames) (sealed_to e)) known_sealed

-- `auto on` and `auto off`: so is it now, and after each write, or after none
abbrev pub auto_rule : Bool → Rule
auto_rule on = changing 64 (λ g. auto_refusal on g.shape) (λ e. says_of (ok_line e.shape.frames) (automatic_to on e)) (λ k. record (known_sealed k) { automatic = on })

-- `promote`: a WAVE file is turned into RF64 in place
abbrev pub promote_rule : Rule
promote_rule = record (changing 116 (λ g. promote_refusal g.shape) (λ e. says_of (ok_line e.shape.frames) (promoted_to e)) known_promoted) { seals_first = true }

-- ---- further chunks

-- what chunks say is asked for
abbrev pub asking : (Editing → FileEdited) → Rule
asking done = record (telling done (λ k. k)) { asked = 81920; takes_memory = true }

-- there is no such chunk, or its body is too large to be given
abbrev pub piece_refusal : Option Piece → Option Refusal
piece_refusal None = Some NoSuchChunk
piece_refusal (Some piece) = refused_if (nat_lt 65536 piece.len) ChunkTooLarge None

-- `get chunks`: all of them, which no content of the disk decides
abbrev pub get_chunks_rule : Rule
get_chunks_rule = record (asking (λ e. says_of (chunks_text e.shape.pieces) e)) { asked = 0 }

-- the others: what a chunk says, or why it does not
abbrev pub found_answer : {T : Type 0} → Refusal → (T → List ℕ) → Result T TagError → Answer
found_answer bad text (Ok found) = says (text found)
found_answer bad text (Err BadBody) = refuses bad
found_answer bad text (Err (Get get.ChunkTooLarge)) = refuses ChunkTooLarge
found_answer bad text (Err error) = refuses NoSuchChunk

abbrev pub telling_of : {T : Type 0} → Refusal → (T → List ℕ) → (List ℕ → Shape → Result T TagError) → (Grounds → Option Refusal) → (Refusal → Bool) → Rule
telling_of bad text held refusal finds = record (asking (λ e. answered (found_answer bad text (held e.bytes e.shape)) e)) { refusal = refusal; finds = λ g. finds }

abbrev pub finds_none : Refusal → Bool
finds_none refusal = false

-- `get chunk`: the body of the first one with the identifier, whatever it says
abbrev pub chunk_of : List ℕ → List ℕ → Shape → Result (List ℕ) TagError
chunk_of id b h = read_as Some b (first_piece id h)

abbrev pub get_chunk_rule : List ℕ → Rule
get_chunk_rule id = telling_of NoSuchChunk body_text (chunk_of id) (λ g. piece_refusal (first_piece id g.shape)) finds_none

-- `get strings`, `get bext` and `get cues`

abbrev pub finds_texts : Refusal → Bool
finds_texts NoSuchChunk = true
finds_texts ChunkTooLarge = true
finds_texts BadInfo = true
finds_texts refusal = false

abbrev pub get_strings_rule : Rule
get_strings_rule = telling_of BadInfo texts_text texts_of (λ g. refused_if (is_none (first_piece (codes "LIST") g.shape)) NoSuchChunk None) finds_texts

abbrev pub finds_broadcast : Refusal → Bool
finds_broadcast BadBext = true
finds_broadcast refusal = false

abbrev pub get_bext_rule : Rule
get_bext_rule = telling_of BadBext bext_text broadcast_of (λ g. piece_refusal (first_piece (codes "bext") g.shape)) finds_broadcast

abbrev pub finds_points : Refusal → Bool
finds_points BadCue = true
finds_points refusal = false

abbrev pub get_cues_rule : Rule
get_cues_rule = telling_of BadCue points_text points_of (λ g. piece_refusal (first_piece (codes "cue ") g.shape)) finds_points

-- a chunk is put before the first frame, and while updates are not automatic
abbrev pub early_refusal : Grounds → Option Refusal → Option Refusal
early_refusal g else_by = refused_if g.written FramesWritten (refused_if g.automatic AutoOn else_by)

-- `set chunk`: one more
abbrev pub chunk_refusal : List ℕ → List ℕ → Grounds → Option Refusal
chunk_refusal id body g = early_refusal g
    (refused_if (is_reserved g.shape.kind id) ReservedChunk
    (refused_if (not (holds_pieces g.shape.kind)) NoChunks
    (refused_if (nat_lt 65536 (length body)) ChunkTooLarge
    (refused_if (nat_le 240 (length g.shape.pieces)) (Open TooManyChunks) None))))

abbrev pub add_rule : List ℕ → List ℕ → Rule
add_rule id body = record (changing 16777216 (chunk_refusal id body) (λ e. says_of done_line (added_to id body e))
    (λ k. known_put (length k.shape.pieces) (new_piece id body) k)) { takes_memory = true }

abbrev pub set_chunk_rule : List ℕ → List ℕ → Rule
set_chunk_rule id hex = add_rule id (bytes_of_hex hex)

-- `set string`, `set bext` and `set cue`: the whole chunk with what it said and one thing more, in its place or behind the others
abbrev pub draft_refusal : Grounds → Option Refusal
draft_refusal g = early_refusal g (refused_if (not (holds_meta g.shape.kind)) NoChunks None)

abbrev pub is_full : List ℕ → Shape → Bool
is_full id h = (place_named id h == length h.pieces) && nat_le 240 (length h.pieces)

abbrev pub put_edit : List ℕ → List ℕ → Editing → FileEdited
put_edit id body e =
    if nat_lt 65536 (length body) then answered (refuses ChunkTooLarge) e
    else (if is_full id e.shape then answered (refuses (Open TooManyChunks)) e else says_of done_line (replaced_to id body e))

abbrev pub finds_no_room : Refusal → Bool
finds_no_room ChunkTooLarge = true
finds_no_room (Open TooManyChunks) = true
finds_no_room refusal = false

abbrev pub drafting : List ℕ → (Grounds → Option Refusal) → (Editing → List ℕ) → Rule
drafting id refusal body = record (changing 16777216 refusal (λ e. put_edit id (body e) e) (λ k. k)) {
  finds = λ g. finds_no_room;
  puts = Some id;
  asked = 16777216;
  takes_memory = true;
}

-- a text has at most so many bytes, and no 0
abbrev pub text_refusal : ℕ → List ℕ → Grounds → Option Refusal
text_refusal most text g = refused_if (not (is_text text)) BadCommand (refused_if (nat_lt most (length text)) TextTooLong (draft_refusal g))

abbrev pub set_string_rule : InfoKey → List ℕ → Rule
set_string_rule key text = drafting (codes "LIST") (text_refusal 1024 text) (info_with key text)

abbrev pub set_time_rule : Option ℕ → Rule
set_time_rule time = drafting (codes "bext") (λ g. refused_if (is_none time) BadCommand (draft_refusal g)) (bext_timed (unwrap_or time 0))

abbrev pub set_bext_rule : BextKey → List ℕ → Rule
set_bext_rule TimeRef text = set_time_rule (decimal text)
set_bext_rule key text = drafting (codes "bext") (text_refusal (field_size key) text) (bext_with key text)

abbrev pub set_cue_rule : List ℕ → Rule
set_cue_rule places = drafting (codes "cue ") draft_refusal (λ e. cue_body (named 1 places))

-- `reserve`: the head gets a chunk that is reserved for 64-bit sizes, before all others
abbrev pub reserve_refusal : Grounds → Option Refusal
reserve_refusal g = early_refusal g (refused_if (not (has_place g.shape)) NoRoom None)

abbrev pub reserve_rule : Rule
reserve_rule = changing 2048 reserve_refusal (λ e. says_of done_line (reserved_to e)) known_reserved

-- ---- which commands there are

-- the codec that a word names, in a file that is made with so many channels and frames a second
abbrev pub codec_of : CodecWord → ℕ → ℕ → Codec
codec_of word.U8 channels rate = codec.U8
codec_of word.S8 channels rate = codec.S8
codec_of (word.S16 order) channels rate = codec.S16 order
codec_of (word.S24 order) channels rate = codec.S24 order
codec_of (word.S32 order) channels rate = codec.S32 order
codec_of word.MuLaw channels rate = codec.MuLaw
codec_of word.ALaw channels rate = codec.ALaw
codec_of word.Ima channels rate = ima_made channels rate
codec_of word.Ms channels rate = ms_made channels rate

-- the command that closes a file
abbrev pub is_close : Said → Bool
is_close Said.close = true
is_close said = false

-- commands that open or close a file, or say whether it is updated automatically: one that is pinned refuses them
abbrev pub is_held : Said → Bool
is_held (Said.open_read name) = true
is_held (Said.open_update name) = true
is_held (Said.create kind codec channels rate name) = true
is_held Said.close = true
is_held (Said.auto on) = true
is_held said = false

-- commands that put a chunk, or reserve one: only a file that is made accepts them
abbrev pub is_set : Said → Bool
is_set (Said.set_chunk id hex) = true
is_set (Said.set_string key text) = true
is_set (Said.set_bext key text) = true
is_set (Said.set_cue places) = true
is_set Said.reserve = true
is_set said = false

-- how much a command uses at most on a file in a mode: one that puts a chunk uses nothing where it is refused
abbrev pub most_on : Mode → (Said → ℕ) → Said → ℕ
most_on mode most said = if is_set said && not (makes mode) then 0 else most said

-- the places that the mode has: that of frames which are made blocks is not sought
abbrev pub seek_rule : Mode → ℕ → Rule
seek_rule reading n = seek_read_rule n
seek_rule writing n = seek_write_rule n
seek_rule encoding n = refused_rule AdpcmSeek
seek_rule updating n = seek_both_rule n
seek_rule pinned n = seek_both_rule n

abbrev pub seek_write_in : Mode → ℕ → Rule
seek_write_in mode n = in_mode (writes mode) (by_blocks (encodes mode) (refused_rule AdpcmSeek) (seek_write_rule n))

-- what is written in it, and cut
abbrev pub write_in : Mode → List ℤ → Rule
write_in mode xs = in_mode (writes mode) (by_blocks (encodes mode) (encode_rule xs) (write_rule xs))

abbrev pub truncate_in : Mode → ℕ → Rule
truncate_in mode n = in_mode (writes mode) (by_blocks (encodes mode) (refused_rule AdpcmUpdate) (truncate_rule n))

abbrev pub trim_in : Mode → Rule
trim_in mode = in_mode (writes mode) (by_blocks (encodes mode) (refused_rule AdpcmUpdate) trim_rule)

-- any command but `close`; no file is opened while one is open
abbrev pub plain_rule : Mode → List Gauge → Said → Rule
plain_rule mode taps Said.info = tell_rule mode
plain_rule mode taps (Said.seek_read n) = in_mode (reads mode) (seek_read_rule n)
plain_rule mode taps (Said.seek_write n) = seek_write_in mode n
plain_rule mode taps (Said.seek_both n) = seek_rule mode n
plain_rule mode taps (Said.read n) = in_mode (reads mode) (read_rule n)
plain_rule mode taps (Said.write xs) = write_in mode xs
plain_rule mode taps (Said.truncate n) = truncate_in mode n
plain_rule mode taps Said.trim = trim_in mode
plain_rule mode taps Said.update = in_mode (writes mode) update_rule
plain_rule mode taps (Said.auto on) = in_mode (writes mode) (auto_rule on)
plain_rule mode taps Said.promote = in_mode (updates mode) promote_rule
plain_rule mode taps Said.reserve = in_mode (makes mode) reserve_rule
plain_rule mode taps (Said.set_chunk id hex) = in_mode (makes mode) (set_chunk_rule id hex)
plain_rule mode taps (Said.set_string key text) = in_mode (makes mode) (set_string_rule key text)
plain_rule mode taps (Said.set_bext key text) = in_mode (makes mode) (set_bext_rule key text)
plain_rule mode taps (Said.set_cue places) = in_mode (makes mode) (set_cue_rule places)
plain_rule mode taps (Said.get_chunk id) = get_chunk_rule id
plain_rule mode taps Said.get_chunks = get_chunks_rule
plain_rule mode taps Said.get_strings = get_strings_rule
plain_rule mode taps Said.get_bext = get_bext_rule
plain_rule mode taps Said.get_cues = get_cues_rule
plain_rule mode taps (Said.tap kind) = tap_rule taps kind
plain_rule mode taps (Said.untap kind) = untap_rule taps kind
plain_rule mode taps said = refused_rule AlreadyOpen

-- .. of which one that is pinned refuses some
abbrev pub unless_pinned : Bool → Mode → Rule → Rule
unless_pinned held mode rule = if held && is_pinned mode then refused_rule Pinned else rule

abbrev pub rule_of : Mode → List Gauge → Said → Rule
rule_of mode taps said = unless_pinned (is_held said) mode (plain_rule mode taps said)
