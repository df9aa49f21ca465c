-- A Wave64 file as it is made, after "Sony Wave64" (Sony Media Software): `riff`, the size of the whole, `wave`, and chunks, each
-- from a multiple of 8 on, among them `fmt ` and at last `data`. A `fact` chunk with the count of the frames stands before the
-- data of all codecs but linear ones; its form and the order of the chunks are this library's own rules.
use Rattle.std.specs.Prelude.{ℕ, ◌+◌, ◌-◌, Bool, true, not, ◌&&◌, List, [], ◌∷◌, ◌++◌, Option, None, Some, codes, length, replicate, if◌then◌else◌}
use Rattle.snd_fields.specs.Field.{bytes_of}
use Rattle.snd_fields.specs.declared.field.Order.TheVariants.{Little}
use Rattle.snd_layout.specs.Blocks.{is_adpcm}
use Rattle.snd_layout.specs.Made.{made}
use Rattle.snd_layout.specs.Params.{Parameters}
use Rattle.snd_layout.specs.Shape.{Shape}
use Rattle.snd_layout.specs.Written.{written_format}
use Rattle.snd_layout.specs.declared.codec.Codec.{Codec}
use Rattle.snd_layout.specs.declared.codec.Codec.TheVariants.{MuLaw, ALaw, Ima, Ms}
use Rattle.snd_layout.specs.declared.field.Field.{Field}
use Rattle.snd_layout.specs.declared.kind.Kind.TheVariants.{W64}
use Rattle.snd_w64.specs.Layout.{id_end, raised}

-- the codecs with a `fact`
abbrev pub has_fact : Codec → Bool
has_fact MuLaw = true
has_fact ALaw = true
has_fact codec = is_adpcm codec

-- the last 12 bytes of the identifier `riff`
abbrev pub riff_end : List ℕ
riff_end = 46 ∷ 145 ∷ 207 ∷ 17 ∷ 165 ∷ 214 ∷ 40 ∷ 219 ∷ 4 ∷ 193 ∷ 0 ∷ 0 ∷ []

-- the head of a chunk whose body has so many bytes: its identifier, and its size, which counts the head
abbrev pub head_bytes : List ℕ → ℕ → List ℕ
head_bytes id len = id ++ (id_end ++ bytes_of Little 8 (len + 24))

-- a chunk: its head, its body, and zeros up to the next multiple of 8
abbrev pub chunk_bytes : List ℕ → List ℕ → List ℕ
chunk_bytes id body = head_bytes id (length body) ++ (body ++ replicate (raised (length body) - length body) 0)

-- the count of no frames, where there is one
abbrev pub fact_bytes : Codec → List ℕ
fact_bytes codec = if has_fact codec then chunk_bytes (codes "fact") (bytes_of Little 8 0) else []

-- where the data begin
abbrev pub start_of : Codec → ℕ
start_of MuLaw = 144
start_of ALaw = 144
start_of (Ima align per_block) = 144
start_of (Ms align per_block) = 176
start_of codec = 104

-- the head of a file without frames, which is the whole of it
unfoldable pub w64_head : Parameters → List ℕ
w64_head p =
    codes "riff" ++ (riff_end ++ (bytes_of Little 8 (start_of p.codec) ++ (codes "wave" ++ (id_end ++ (chunk_bytes (codes "fmt ") (written_format p)
    ++ (fact_bytes p.codec ++ head_bytes (codes "data") 0))))))

-- the field that decides the count, and the count that is not read
abbrev pub inner_at : Codec → ℕ → Field
inner_at codec start = if is_adpcm codec then record { at = start - 32; size = 32 } else record { at = start - 8; size = 8 }

abbrev pub side_at : Codec → ℕ → Option Field
side_at codec start = if has_fact codec && not (is_adpcm codec) then Some (record { at = start - 32; size = 8 }) else None

-- what a file says of itself that is made
unfoldable pub made_shape : Parameters → Shape
made_shape p =
    made W64 p (start_of p.codec) (inner_at p.codec (start_of p.codec)) (Some (record { at = 16; size = 8 })) (side_at p.codec (start_of p.codec))
