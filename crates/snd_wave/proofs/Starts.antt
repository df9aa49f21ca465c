-- Where data begin behind chunks of so many bytes.
use Rattle.std.proofs.Common.{◌≡◌, ℕ, ◌+◌, ◌-◌, ◌≤◌, List, true, false, length, refl, sym, ap, ◌∙◌, inl, inr, arith}
use Rattle.std.proofs.lemmas.Bool.{cases_Bool}
use Rattle.snd_chunks.proofs.Public.{length-chunk_bytes, length-chunks_bytes}
use Rattle.snd_chunks.specs.Written.{NewChunk, chunk_bytes, chunks_bytes, head_bytes}
use Rattle.snd_fields.specs.declared.field.Order.TheVariants.{Little}
use Rattle.snd_layout.specs.Params.{Parameters}
use Rattle.snd_layout.specs.Sector.{is_in_one_sector}
use Rattle.snd_layout.specs.declared.codec.Codec.{Codec}
use Rattle.snd_layout.specs.declared.codec.Codec.TheVariants.{U8, S8, S16, S24, S32, MuLaw, ALaw, Ima, Ms}
use Rattle.snd_wave.proofs.NewHeads.{size_with}
use Rattle.snd_wave.proofs.Putting.{first_is}
use Rattle.snd_wave.specs.Start.{BeginsWith, filled_start}
use Rattle.snd_wave.specs.Written.{filler, head_size, inner_size, new_fact, new_format, plain_start, reserved_start, start_without_filler}

-- with and without the filler
pub stays : (start inner n : ℕ) → is_in_one_sector (start - inner) inner ≡ true → n ≡ start → filled_start start inner ≡ n
stays start inner n within is = rw within (sym is)

pub moves : (start inner n : ℕ) → is_in_one_sector (start - inner) inner ≡ false → n ≡ start + 16 → filled_start start inner ≡ n
moves start inner n apart is = rw apart (sym is)

filler_bytes : (p : Parameters) (pieces : List NewChunk) → is_in_one_sector (start_without_filler p pieces - inner_size p.codec) (inner_size p.codec) ≡ false → length (chunks_bytes Little (filler p pieces)) ≡ 16
unfolding chunks_bytes chunk_bytes head_bytes
filler_bytes p pieces apart = rw apart refl

no_filler_bytes : (p : Parameters) (pieces : List NewChunk) → is_in_one_sector (start_without_filler p pieces - inner_size p.codec) (inner_size p.codec) ≡ true → length (chunks_bytes Little (filler p pieces)) ≡ 0
unfolding chunks_bytes
no_filler_bytes p pieces within = rw within refl

wave_filled : (p : Parameters) (pieces : List NewChunk) → filled_start (start_without_filler p pieces) (inner_size p.codec) ≡ head_size p pieces
wave_filled p pieces = elim (cases_Bool (is_in_one_sector (start_without_filler p pieces - inner_size p.codec) (inner_size p.codec))) [
  | inl within ↦ stays (start_without_filler p pieces) (inner_size p.codec) (head_size p pieces) within (omega (arith, size_with p pieces, no_filler_bytes p pieces within))
  | inr apart ↦ moves (start_without_filler p pieces) (inner_size p.codec) (head_size p pieces) apart (omega (arith, size_with p pieces, filler_bytes p pieces apart))
]

plain_most : (codec : Codec) → 8 + length (chunks_bytes Little (new_fact codec 0)) ≤ plain_start codec
unfolding chunks_bytes chunk_bytes head_bytes
plain_most U8 = omega arith
plain_most S8 = omega arith
plain_most (S16 order) = omega arith
plain_most (S24 order) = omega arith
plain_most (S32 order) = omega arith
plain_most MuLaw = omega arith
plain_most ALaw = omega arith
plain_most (Ima align per_block) = omega arith
plain_most (Ms align per_block) = omega arith

wave_plain : (p : Parameters) (pieces : List NewChunk) → start_without_filler p pieces ≡ plain_start p.codec + length (chunks_bytes Little pieces)
unfolding reserved_start
wave_plain p pieces =
    omega (arith, first_is p, plain_most p.codec, length-chunks_bytes Little (new_format p) pieces, length-chunk_bytes Little (new_format p) 12 refl)

pub begins_wave : (codec : Codec) (bytes start inner n : ℕ) → n ≡ filled_start (start + bytes) inner → start ≡ plain_start codec → inner ≡ inner_size codec → BeginsWith codec bytes n
begins_wave codec bytes start inner n is at size p pieces same takes =
    let first : start + bytes ≡ start_without_filler p pieces = omega (arith, at, takes, ap plain_start same, wave_plain p pieces) in
    is ∙ ap (λ (k : ℕ). filled_start k inner) first ∙ ap (λ (k : ℕ). filled_start (start_without_filler p pieces) k) (size ∙ ap inner_size (sym same)) ∙ wave_filled p pieces
