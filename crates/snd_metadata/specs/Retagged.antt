-- What `metadata-set` does: the whole file that it makes, or what it refuses, and why.
use Rattle.std.specs.Prelude.{ℕ, Bool, true, false, ◌||◌, not, List, [], ◌∷◌, Option, Some, None, Result, Ok, Err, option_map, length, nat_lt, if◌then◌else◌}
use Rattle.std.specs.Option.{unwrap_or}
use Rattle.std.specs.Str.{bytes_eq}
use Rattle.snd_chunks.specs.Written.{NewChunk}
use Rattle.snd_disk.specs.Shelf.{Files}
use Rattle.snd_layout.specs.Blocks.{is_adpcm}
use Rattle.snd_layout.specs.Fit.{fit_refusal}
use Rattle.snd_layout.specs.Params.{data_bytes}
use Rattle.snd_layout.specs.Shape.{Shape, room}
use Rattle.snd_inputs.specs.Inputs.{input_in}
use Rattle.snd_lines.specs.declared.refusal.Refusal.{Refusal}
use Rattle.snd_lines.specs.declared.refusal.Refusal.TheVariants.{AdpcmUpdate, BadBext, BadInfo, ChunkTooLarge, ContainerFull, NoChunks, Open, SameName, TextTooLong}
use Rattle.snd_meta.specs.Broadcast.{Broadcast, bext_body, blank}
use Rattle.snd_meta.specs.Info.{Entry, info_body}
use Rattle.snd_edits.specs.declared.error.GetError.TheVariants as get
use Rattle.snd_edits.specs.Editing.{Editing}
use Rattle.snd_layout.specs.Kinds.{holds_meta}
use Rattle.snd_edits.specs.Relaid.{shape_with}
use Rattle.snd_output.specs.Made.{made_file}
use Rattle.snd_output.specs.Widths.{joined}
use Rattle.snd_edits.specs.TagsHeld.{broadcast_of, texts_of}
use Rattle.snd_edits.specs.declared.tag_error.TagError.{TagError}
use Rattle.snd_edits.specs.declared.tag_error.TagError.TheVariants.{BadBody, Get}
use Rattle.snd_tools.specs.Done.{Done}
use Rattle.snd_words.specs.Stated.{Stated}
use Rattle.snd_metadata.specs.Chunks.{kept_chunks, with_extension, with_info_list}
use Rattle.snd_metadata.specs.Settings.{are_too_long, set_fields, set_texts, with_entries, with_fields}

-- ---- what the chunks that are to be changed say

-- A chunk that no setting changes is not judged: it is as if there were none.
abbrev pub judged : {T : Type 0} → Bool → Result T TagError → Result T TagError
judged true held = held
judged false held = Err (Get get.NoSuchChunk)

abbrev pub extension_judged : List Stated → Editing → Result Broadcast TagError
extension_judged settings e = judged (set_fields settings) (broadcast_of e.bytes e.shape)

abbrev pub texts_judged : List Stated → Editing → Result (List Entry) TagError
texts_judged settings e = judged (set_texts settings) (texts_of e.bytes e.shape)

-- it has more than 65536 bytes, or does not read
abbrev pub is_too_large : {T : Type 0} → Result T TagError → Bool
is_too_large (Err (Get get.ChunkTooLarge)) = true
is_too_large held = false

abbrev pub is_unreadable : {T : Type 0} → Result T TagError → Bool
is_unreadable (Err BadBody) = true
is_unreadable held = false

-- what it says; where there is none, what a new one says
abbrev pub said_or : {T : Type 0} → T → Result T TagError → T
said_or new (Ok said) = said
said_or new (Err none) = new

-- ---- what is made

-- the bodies with all that is set
abbrev pub extension_body : List Stated → Editing → List ℕ
extension_body settings e = bext_body (with_fields settings (said_or blank (extension_judged settings e)))

abbrev pub texts_body : List Stated → Editing → List ℕ
texts_body settings e = info_body (with_entries settings (said_or [] (texts_judged settings e)))

-- the chunks
abbrev pub chunks_made : List Stated → Editing → List NewChunk
chunks_made settings e =
    with_info_list (set_texts settings) (texts_body settings e) (with_extension (set_fields settings) (extension_body settings e) (kept_chunks e.bytes e.shape.pieces))

-- and the file: of the kind, with the parameters and the frames of the input
abbrev pub bytes_made : List Stated → Editing → List ℕ
bytes_made settings e = made_file e.shape.kind e.shape.params (chunks_made settings e) (joined e.frames)

-- ---- what is refused

-- the head with some chunks has no room for the data
abbrev pub is_full_with : Shape → List NewChunk → Bool
is_full_with h chunks = nat_lt (room (shape_with h.kind h.params chunks)) (data_bytes h.params h.frames)

-- a changed body has more than 65536 bytes
abbrev pub are_too_large : List ℕ → List ℕ → Bool
are_too_large extension texts = nat_lt 65536 (length extension) || nat_lt 65536 (length texts)

-- a case where it holds, and the first of several
abbrev pub refuse_if : Bool → Done → Option Done
refuse_if holds refused = if holds then Some refused else None

abbrev pub first_of : List (Option Done) → Option Done
first_of [] = None
first_of (None ∷ rest) = first_of rest
first_of (Some done ∷ rest) = Some done

-- The cases in their order. A changed broadcast extension never has too many bytes: its history is as long as before, or has at
-- most 1024.
abbrev pub refusals : List Stated → List ℕ → List ℕ → Editing → List (Option Done)
refusals settings input output e =
    refuse_if (not (holds_meta e.shape.kind)) (Done.refuses input NoChunks)
    ∷ refuse_if (is_adpcm e.shape.params.codec) (Done.refuses input AdpcmUpdate)
    ∷ refuse_if (is_too_large (extension_judged settings e) || is_too_large (texts_judged settings e)) (Done.refuses input ChunkTooLarge)
    ∷ refuse_if (is_unreadable (extension_judged settings e)) (Done.refuses input BadBext)
    ∷ refuse_if (is_unreadable (texts_judged settings e)) (Done.refuses input BadInfo)
    ∷ refuse_if (are_too_long settings) (Done.refuses output TextTooLong)
    ∷ refuse_if (are_too_large (extension_body settings e) (texts_body settings e)) (Done.refuses output ChunkTooLarge)
    ∷ option_map (λ why. Done.refuses output (Open why)) (fit_refusal e.shape.kind e.shape.params)
    ∷ refuse_if (is_full_with e.shape (chunks_made settings e)) (Done.refuses output ContainerFull)
    ∷ []

-- ---- what is done

abbrev pub retagged_file : List Stated → List ℕ → List ℕ → Editing → Done
retagged_file settings input output e = unwrap_or (first_of (refusals settings input output e)) (Done.makes output (bytes_made settings e) e.shape.frames)

abbrev pub retagged_with : List Stated → List ℕ → List ℕ → Result Editing Refusal → Done
retagged_with settings input output (Err why) = Done.refuses input why
retagged_with settings input output (Ok e) = retagged_file settings input output e

-- `metadata-set SETTING.. INPUT OUTPUT`
abbrev pub retagged : List Stated → List ℕ → List ℕ → Files → Done
retagged settings input output files =
    if bytes_eq input output then Done.refuses output SameName else retagged_with settings input output (input_in (files input))
