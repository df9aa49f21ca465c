-- The replies of a script.
use Rattle.std.specs.Prelude.{◌≡◌, ◌⊎◌, ℕ, ℤ, List, [], ◌∷◌, ◌++◌, Bool, true, false, Option, option_map, length, codes, decimal}
use Rattle.std.specs.Fmt.{signed_decimal}
use Rattle.std.specs.List.{flat_map}
use Rattle.snd_disk.specs.Streams.{AppendsFront}
use Rattle.snd_layout.specs.Names.{codec_name, kind_name}
use Rattle.snd_layout.specs.Params.{Parameters}
use Rattle.snd_layout.specs.declared.piece.Piece.{Piece}
use Rattle.snd_lines.specs.Lines.{behind_each, bext_lines, chunk_line, cue_line, hex_text, text_line}
use Rattle.snd_meta.specs.Broadcast.{Broadcast}
use Rattle.snd_meta.specs.Info.{Entry}
use Rattle.snd_meta.specs.declared.cue.CuePoint.{CuePoint}
use Rattle.snd_layout.specs.Shape.{Shape}
use Rattle.snd_pcm.specs.Groups.{first_groups}
use Rattle.snd_layout.specs.declared.kind.Kind.{Kind}
use Rattle.snd_lines.specs.Refusals.{refusal_name, refusal_number}
use Rattle.snd_lines.specs.declared.refusal.Refusal.{Refusal}

-- what a line is answered: a text of whole lines, or a refusal; or nothing at all
pub data Answer : Type 0 where
  nothing : Answer
  says : List ℕ → Answer
  refuses : Refusal → Answer

-- `error NUMBER NAME`
abbrev pub error_line : Refusal → List ℕ
error_line refusal = codes "error " ++ decimal (refusal_number refusal) ++ 32 ∷ [] ++ refusal_name refusal ++ 10 ∷ []

-- `ok N`
abbrev pub ok_line : ℕ → List ℕ
ok_line n = codes "ok " ++ decimal n ++ 10 ∷ []

-- `ok`, where there is no number to say
abbrev pub done_line : List ℕ
done_line = codes "ok\n"

-- `ok LEN HEX`, the bytes of a body, or `ok 0`
abbrev pub body_text : List ℕ → List ℕ
body_text [] = codes "ok 0\n"
body_text (b ∷ bs) = codes "ok " ++ decimal (length (b ∷ bs)) ++ 32 ∷ [] ++ hex_text (b ∷ bs) ++ 10 ∷ []

-- `ok K` and K lines: `ID LEN` for a chunk, `KEY TEXT` for a text, `NAME OFFSET` for a cue point; the fields of a broadcast
-- extension are seven
abbrev pub chunks_text : List Piece → List ℕ
chunks_text pieces = ok_line (length pieces) ++ behind_each [] chunk_line pieces

abbrev pub texts_text : List Entry → List ℕ
texts_text entries = ok_line (length entries) ++ behind_each [] text_line entries

abbrev pub points_text : List CuePoint → List ℕ
points_text points = ok_line (length points) ++ flat_map cue_line points

abbrev pub bext_text : Broadcast → List ℕ
bext_text broadcast = ok_line 7 ++ bext_lines broadcast

-- `FRAMES CHANNELS RATE `
abbrev pub counts_text : ℕ → Parameters → List ℕ
counts_text frames params = decimal frames ++ 32 ∷ [] ++ decimal params.channels ++ 32 ∷ [] ++ decimal params.rate ++ 32 ∷ []

-- `ok FRAMES CHANNELS RATE KIND CODEC`
abbrev pub described : ℕ → Parameters → Kind → List ℕ
described frames params kind = codes "ok " ++ decimal frames ++ 32 ∷ [] ++ decimal params.channels ++ 32 ∷ [] ++ decimal params.rate ++ 32 ∷ []
    ++ kind_name kind ++ 32 ∷ [] ++ codec_name params.codec ++ 10 ∷ []

abbrev pub file_line : Shape → List ℕ
file_line s = described s.frames s.params s.kind

-- a frame: its numbers with a space between them
abbrev pub spaced : ℤ → List ℕ
spaced x = 32 ∷ signed_decimal x

abbrev pub frame_line : List ℤ → List ℕ
frame_line [] = 10 ∷ []
frame_line (x ∷ xs) = signed_decimal x ++ flat_map spaced xs ++ 10 ∷ []

-- `ok K` and the lines of K frames
abbrev pub frames_text : List (List ℤ) → List ℕ
frames_text frames = ok_line (length frames) ++ flat_map frame_line frames

abbrev pub text_of : Answer → List ℕ
text_of nothing = []
text_of (says text) = text
text_of (refuses refusal) = error_line refusal

abbrev pub is_refusal : Answer → Bool
is_refusal (refuses refusal) = true
is_refusal answer = false

-- the text of frames that stand one behind the other, of so many numbers each
abbrev pub read_text : ℕ → ℕ → List ℤ → List ℕ
read_text channels frames samples = frames_text (first_groups channels frames samples)

-- a text was put behind what the sink tells; or a front of it
abbrev pub PutsAll : {O : Type 0} → (O → Option (List ℕ)) → List ℕ → O → O → Type 0
PutsAll told text old new = told new ≡ option_map (λ t. t ++ text) (told old)

abbrev pub PutsFront : {O : Type 0} → (O → Option (List ℕ)) → List ℕ → O → O → Type 0
PutsFront told text old new = AppendsFront (told old) (told new) text

-- the text that was gathered is as it was, and nothing was put; or it was put, and none is left
abbrev pub MakesRoom : {O : Type 0} → (O → Option (List ℕ)) → List ℕ → List ℕ → O → O → Type 0
MakesRoom told page page' old new = ((page' ≡ page) × (told new ≡ told old)) ⊎ ((page' ≡ []) × PutsAll told page old new)
