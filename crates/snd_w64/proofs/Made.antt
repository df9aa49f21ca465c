-- A file that is made reads back.
use Rattle.std.proofs.Common.{◌≡◌, ℕ, zero, suc, ◌+◌, ◌-◌, ◌*◌, ◌/◌, ◌<◌, List, [], ◌∷◌, ◌++◌, All, None, Some, Ok, length, min, replicate, refl, sym, ap, ◌∙◌, inl, inr, arith}
use Rattle.std.proofs.Math.Nat.{div-zero}
use Rattle.std.proofs.lemmas.Bool.{cases_Bool}
use Rattle.std.proofs.lemmas.Nat.{div_below}
use Rattle.std.proofs.lemmas.List.Elements.{All-append, All-nil, All-replicate}
use Rattle.std.specs.Prelude.{codes}
use Rattle.snd_chunks.specs.declared.chunk.Chunk.{Chunk}
use Rattle.snd_chunks.specs.declared.front.Front.{Front}
use Rattle.snd_chunks.specs.declared.front.Ending.TheVariants.{AtSound}
use Rattle.snd_chunks.specs.Chunks.{front}
use Rattle.snd_fields.proofs.Numbers.{bytes_are_bytes}
use Rattle.snd_fields.specs.Field.{bytes_of}
use Rattle.snd_fields.specs.Laws.{IsByte}
use Rattle.snd_fields.specs.declared.field.Order.TheVariants.{Little}
use Rattle.snd_layout.proofs.RoundTrips.{written_format_reads_back}
use Rattle.snd_layout.specs.Container.{IsNew}
use Rattle.snd_layout.specs.Fit.{fit_refusal}
use Rattle.snd_layout.specs.Format.{format_of}
use Rattle.snd_layout.proofs.StatedFormats.{format_bytes}
use Rattle.snd_layout.specs.Params.{AreParams, Parameters}
use Rattle.snd_layout.specs.Written.{written_format}
use Rattle.snd_layout.specs.declared.codec.Codec.{Codec}
use Rattle.snd_layout.specs.declared.codec.Codec.TheVariants.{U8, S8, S16, S24, S32, MuLaw, ALaw, Ima, Ms}
use Rattle.snd_layout.specs.declared.kind.Kind.TheVariants.{W64}
use Rattle.snd_w64.specs.Container.{w64}
use Rattle.snd_chunks.specs.Parts.{body_of, format_chunk, front_refusal}
use Rattle.snd_w64.specs.Layout.{id_end, raised, w64_front, w64_layout, w64_shape}
use Rattle.snd_w64.specs.Written.{chunk_bytes, fact_bytes, has_fact, head_bytes, made_shape, riff_end, start_of, w64_head}
use Rattle.snd_w64.proofs.FieldLaws.{from_test}
use Rattle.snd_w64.proofs.Opens.{opened}

-- the chunks of a made file
abbrev format_made : ℕ → ℕ → Chunk
format_made len next = record { id = record { 0 = codes "fmt " }; at = 64; len = len; next = next }

abbrev fact_made : ℕ → Chunk
fact_made at = record { id = record { 0 = codes "fact" }; at = at; len = 8; next = at + 8 }

abbrev sound_made : ℕ → Chunk
sound_made at = record { id = record { 0 = codes "data" }; at = at; len = 0; next = at }

chunks_made : Codec → List Chunk
chunks_made MuLaw = format_made 18 88 ∷ fact_made 112 ∷ []
chunks_made ALaw = format_made 18 88 ∷ fact_made 112 ∷ []
chunks_made (Ima align per_block) = format_made 20 88 ∷ fact_made 112 ∷ []
chunks_made (Ms align per_block) = format_made 50 120 ∷ fact_made 144 ∷ []
chunks_made codec = format_made 16 80 ∷ []

walked : (c r : ℕ) (codec : Codec) → w64_front (w64_head (record { channels = c; rate = r; codec = codec })) ≡ record { chunks = chunks_made codec; ending = AtSound (sound_made (start_of codec)) }
unfolding w64_front w64_head front chunks_made
walked c r U8 = refl
walked c r S8 = refl
walked c r (S16 order) = refl
walked c r (S24 order) = refl
walked c r (S32 order) = refl
walked c r MuLaw = refl
walked c r ALaw = refl
walked c r (Ima align per_block) = refl
walked c r (Ms align per_block) = refl

made_front : (p : Parameters) → w64_front (w64_head p) ≡ record { chunks = chunks_made p.codec; ending = AtSound (sound_made (start_of p.codec)) }
made_front p = walked p.channels p.rate p.codec

refusal_made : (codec : Codec) → front_refusal (record { chunks = chunks_made codec; ending = AtSound (sound_made (start_of codec)) }) ≡ None
unfolding chunks_made
refusal_made U8 = refl
refusal_made S8 = refl
refusal_made (S16 order) = refl
refusal_made (S24 order) = refl
refusal_made (S32 order) = refl
refusal_made MuLaw = refl
refusal_made ALaw = refl
refusal_made (Ima align per_block) = refl
refusal_made (Ms align per_block) = refl

format_len : Codec → ℕ
format_len MuLaw = 18
format_len ALaw = 18
format_len (Ima align per_block) = 20
format_len (Ms align per_block) = 50
format_len codec = 16

format_next : Codec → ℕ
format_next MuLaw = 88
format_next ALaw = 88
format_next (Ima align per_block) = 88
format_next (Ms align per_block) = 120
format_next codec = 80

found_made : (codec : Codec) → format_chunk (chunks_made codec) ≡ Some (format_made (format_len codec) (format_next codec))
unfolding chunks_made format_len format_next
found_made U8 = refl
found_made S8 = refl
found_made (S16 order) = refl
found_made (S24 order) = refl
found_made (S32 order) = refl
found_made MuLaw = refl
found_made ALaw = refl
found_made (Ima align per_block) = refl
found_made (Ms align per_block) = refl

body_made : (c r : ℕ) (codec : Codec) → body_of (w64_head (record { channels = c; rate = r; codec = codec })) (format_made (format_len codec) (format_next codec)) ≡ written_format (record { channels = c; rate = r; codec = codec })
unfolding w64_head format_len format_next
body_made c r U8 = refl
body_made c r S8 = refl
body_made c r (S16 order) = refl
body_made c r (S24 order) = refl
body_made c r (S32 order) = refl
body_made c r MuLaw = refl
body_made c r ALaw = refl
body_made c r (Ima align per_block) = refl
body_made c r (Ms align per_block) = refl

zero_div : (c : ℕ) → 0 / c ≡ 0
zero_div zero = div-zero 0
zero_div (suc c) = let low : 0 / suc c < 1 = div_below 0 (suc c) 1 (omega arith) (omega arith) in omega (arith, low)

none_yet : (a k : ℕ) → min 0 (0 / a * k) ≡ 0
none_yet a k = rw (zero_div a) (omega arith)

-- what the parts of a made file say
shape_made : (c r : ℕ) (codec : Codec) → made_shape (record { channels = c; rate = r; codec = codec }) ≡ w64_shape (w64_head (record { channels = c; rate = r; codec = codec })) (record { chunks = chunks_made codec; ending = AtSound (sound_made (start_of codec)) }) (record { channels = c; rate = r; codec = codec }) (sound_made (start_of codec))
unfolding w64_head made_shape chunks_made
shape_made c r U8 = rw (zero_div c) refl
shape_made c r S8 = rw (zero_div c) refl
shape_made c r (S16 order) = rw (zero_div (2 * c)) refl
shape_made c r (S24 order) = rw (zero_div (3 * c)) refl
shape_made c r (S32 order) = rw (zero_div (4 * c)) refl
shape_made c r MuLaw = rw (zero_div c) refl
shape_made c r ALaw = rw (zero_div c) refl
shape_made c r (Ima align per_block) = sym (ap (λ (n : ℕ). record (made_shape (record { channels = c; rate = r; codec = Ima align per_block })) { frames = n }) (none_yet align per_block))
shape_made c r (Ms align per_block) = sym (ap (λ (n : ℕ). record (made_shape (record { channels = c; rate = r; codec = Ms align per_block })) { frames = n }) (none_yet align per_block))

told_made : (p : Parameters) → AreParams p → fit_refusal W64 p ≡ None → w64_layout (w64_head p) ≡ Ok (made_shape p)
told_made p good fits =
    let front : Front = w64_front (w64_head p) in
    let front_is = made_front p in
    opened (w64_head p) (made_shape p) (record {
      format = format_made (format_len p.codec) (format_next p.codec);
      sound = sound_made (start_of p.codec);
      params = p;
      no_refusal = rw front_is (refusal_made p.codec);
      format_is = rw front_is (found_made p.codec);
      sound_is = ap (λ (f : Front). f.ending) front_is;
      params_are = ap format_of (body_made p.channels p.rate p.codec) ∙ written_format_reads_back p good fits;
      shape = shape_made p.channels p.rate p.codec ∙ ap (λ (f : Front). w64_shape (w64_head p) f p (sound_made (start_of p.codec))) (sym front_is);
    })

start_made : (c r : ℕ) (codec : Codec) → start_of codec ≡ length (w64_head (record { channels = c; rate = r; codec = codec }))
unfolding w64_head
start_made c r U8 = refl
start_made c r S8 = refl
start_made c r (S16 order) = refl
start_made c r (S24 order) = refl
start_made c r (S32 order) = refl
start_made c r MuLaw = refl
start_made c r ALaw = refl
start_made c r (Ima align per_block) = refl
start_made c r (Ms align per_block) = refl

-- ---- a made file is one of bytes

joins : (x y : List ℕ) → All IsByte x → All IsByte y → All IsByte (x ++ y)
joins x y one two = All-append IsByte x y one two

number_is : (k n : ℕ) → All IsByte (bytes_of Little k n)
number_is k n = (bytes_are_bytes Little k n).1

end_is : All IsByte id_end
end_is = from_test id_end refl

zeros_are : (k : ℕ) → All IsByte (replicate k 0)
zeros_are k = All-replicate IsByte k 0 (omega arith)

head_is : (id : List ℕ) (len : ℕ) → All IsByte id → All IsByte (head_bytes id len)
head_is id len is = joins id (id_end ++ bytes_of Little 8 (len + 24)) is (joins id_end (bytes_of Little 8 (len + 24)) end_is (number_is 8 (len + 24)))

chunk_is : (id body : List ℕ) → All IsByte id → All IsByte body → All IsByte (chunk_bytes id body)
chunk_is id body is bytes =
    joins (head_bytes id (length body)) (body ++ replicate (raised (length body) - length body) 0) (head_is id (length body) is) (joins body (replicate (raised (length body) - length body) 0) bytes (zeros_are (raised (length body) - length body)))

fact_is : (codec : Codec) → All IsByte (fact_bytes codec)
fact_is codec = elim (cases_Bool (has_fact codec)) [
  | inl has ↦ rw has (chunk_is (codes "fact") (bytes_of Little 8 0) (from_test (codes "fact") refl) (number_is 8 0))
  | inr none ↦ rw none (All-nil IsByte)
]

pub head_bytes_are : (p : Parameters) → All IsByte (w64_head p)
unfolding w64_head
head_bytes_are p =
    let format = chunk_bytes (codes "fmt ") (written_format p) in
    let fact = fact_bytes p.codec in
    let sound = head_bytes (codes "data") 0 in
    let size = bytes_of Little 8 (start_of p.codec) in
    let six = joins format (fact ++ sound) (chunk_is (codes "fmt ") (written_format p) (from_test (codes "fmt ") refl) (format_bytes p)) (joins fact sound (fact_is p.codec) (head_is (codes "data") 0 (from_test (codes "data") refl))) in
    let five = joins id_end (format ++ (fact ++ sound)) end_is six in
    let four = joins (codes "wave") (id_end ++ (format ++ (fact ++ sound))) (from_test (codes "wave") refl) five in
    let three = joins size (codes "wave" ++ (id_end ++ (format ++ (fact ++ sound)))) (number_is 8 (start_of p.codec)) four in
    let two = joins riff_end (size ++ (codes "wave" ++ (id_end ++ (format ++ (fact ++ sound))))) (from_test riff_end refl) three in
    joins (codes "riff") (riff_end ++ (size ++ (codes "wave" ++ (id_end ++ (format ++ (fact ++ sound)))))) (from_test (codes "riff") refl) two

pub is_new : (p : Parameters) → AreParams p → fit_refusal W64 p ≡ None → IsNew W64 w64 p
unfolding made_shape
is_new p good fits = record {
  told = told_made p good fits;
  bytes = head_bytes_are p;
  is_kind = refl;
  params = refl;
  frames = refl;
  start = start_made p.channels p.rate p.codec;
  known = refl;
  free = refl;
  pieces = refl;
}
