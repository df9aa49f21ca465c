-- The broadcast extension of a `bext` chunk. EBU Tech 3285 (version 2, 2011), "Broadcast Audio Extension Chunk".
use Rattle.std.specs.Prelude.{◌≡◌, ◌≢◌, ℕ, ◌^◌, ◌<◌, nat_lt, if◌then◌else◌, List, [], ◌∷◌, ◌++◌, length, take, drop, replicate, Option, Some, None, unwrap_or}
use Rattle.snd_fields.specs.Decimal.{decimal}
use Rattle.snd_fields.specs.Field.{number, bytes_of}
use Rattle.snd_fields.specs.declared.field.Order.TheVariants.{Little}
use Rattle.snd_meta.specs.declared.bext.BextKey.{BextKey}
use Rattle.snd_meta.specs.declared.bext.BextKey.TheVariants.{Description, Originator, OrigRef, OrigDate, OrigTime, TimeRef, CodingHist}
use Rattle.snd_meta.specs.Text.{text_of, padded, joined, IsTextWithin}

-- what a broadcast extension says
pub record Broadcast : Type 0 where
  pub description : List ℕ
  pub originator : List ℕ
  pub reference : List ℕ
  pub date : List ℕ
  pub time : List ℕ
  -- the first sample's place since midnight, in samples
  pub time_reference : ℕ
  pub version : ℕ
  pub umid : List ℕ
  -- loudness in version 2, and reserved bytes: kept, and not interpreted
  pub further : List ℕ
  pub history : List ℕ

-- what a draft can be: each text fits its field, and each number has its bytes
pub record IsBroadcast (b : Broadcast) : Type 0 where
  pub description : IsTextWithin 256 b.description
  pub originator : IsTextWithin 32 b.originator
  pub reference : IsTextWithin 32 b.reference
  pub date : IsTextWithin 10 b.date
  pub time : IsTextWithin 8 b.time
  pub time_reference : b.time_reference < 2 ^ 64
  pub version : b.version < 2 ^ 16
  pub umid : length b.umid ≡ 64
  pub further : length b.further ≡ 190
  pub history : IsTextWithin 65536 b.history

-- where the field of a key begins; the coding history stands behind the 602 bytes of the fixed part
abbrev pub field_place : BextKey → ℕ
field_place Description = 0
field_place Originator = 256
field_place OrigRef = 288
field_place OrigDate = 320
field_place OrigTime = 330
field_place TimeRef = 338
field_place CodingHist = 602

-- how many bytes the field of a key has; of a coding history: how many may be set
abbrev pub field_size : BextKey → ℕ
field_size Description = 256
field_size Originator = 32
field_size OrigRef = 32
field_size OrigDate = 10
field_size OrigTime = 8
field_size TimeRef = 8
field_size CodingHist = 1024

-- the text in the field of a key, which ends at its first 0
abbrev pub field_text : BextKey → List ℕ → List ℕ
field_text key body = text_of (take (field_size key) (drop (field_place key) body))

-- What a body holds: nothing where it is shorter than the fixed part. The time reference is a u32 low and a
-- u32 high, which is one number of eight bytes.
unfoldable pub bext_of : List ℕ → Option Broadcast
bext_of body =
    if nat_lt (length body) 602 then None
    else Some (record {
      description = field_text Description body;
      originator = field_text Originator body;
      reference = field_text OrigRef body;
      date = field_text OrigDate body;
      time = field_text OrigTime body;
      time_reference = number Little body 338 8;
      version = number Little body 346 2;
      umid = take 64 (drop 348 body);
      further = take 190 (drop 412 body);
      history = text_of (drop 602 body);
    })

-- the five texts, each in its field
abbrev pub text_parts : Broadcast → List ℕ
text_parts b = joined (padded 256 b.description ∷ padded 32 b.originator ∷ padded 32 b.reference ∷ padded 10 b.date ∷ padded 8 b.time ∷ [])

-- the numbers, the bytes that are kept, and the history, which no 0 ends
abbrev pub other_parts : Broadcast → List ℕ
other_parts b = joined (bytes_of Little 8 b.time_reference ∷ bytes_of Little 2 b.version ∷ b.umid ∷ b.further ∷ b.history ∷ [])

-- the body that says this
unfoldable pub bext_body : Broadcast → List ℕ
bext_body b = text_parts b ++ other_parts b

-- a new draft: version 1, and zeros elsewhere
abbrev pub blank : Broadcast
blank = record {
  description = [];
  originator = [];
  reference = [];
  date = [];
  time = [];
  time_reference = 0;
  version = 1;
  umid = replicate 64 0;
  further = replicate 190 0;
  history = [];
}

-- the text of a key; the time reference is a number and has none
abbrev pub bext_text : BextKey → Broadcast → List ℕ
bext_text Description b = b.description
bext_text Originator b = b.originator
bext_text OrigRef b = b.reference
bext_text OrigDate b = b.date
bext_text OrigTime b = b.time
bext_text TimeRef b = []
bext_text CodingHist b = b.history

-- a draft with a text put under a key
abbrev pub with_bext_text : BextKey → List ℕ → Broadcast → Broadcast
with_bext_text Description text b = record b { description = text }
with_bext_text Originator text b = record b { originator = text }
with_bext_text OrigRef text b = record b { reference = text }
with_bext_text OrigDate text b = record b { date = text }
with_bext_text OrigTime text b = record b { time = text }
with_bext_text TimeRef text b = b
with_bext_text CodingHist text b = record b { history = text }

-- ---- one field alone

-- a text that its field is too short for; the time reference is a number and fits
abbrev pub ExceedsField : BextKey → List ℕ → Type 0
ExceedsField key text = (key ≢ TimeRef) × (field_size key < length text)

-- The bytes that put a text into its field: zeros follow it. The time reference is written in decimal digits.
abbrev pub field_of : BextKey → List ℕ → List ℕ
field_of TimeRef text = bytes_of Little 8 (unwrap_or (decimal text) 0)
field_of key text = padded (field_size key) text
