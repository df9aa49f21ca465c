-- Where data begin behind chunks of so many bytes.
use Rattle.std.proofs.Common.{◌≡◌, ℕ, ◌+◌, ◌-◌, List, ◌++◌, true, false, length, refl, ap, ◌∙◌, inl, inr, arith}
use Rattle.std.proofs.lemmas.Bool.{cases_Bool}
use Rattle.snd_chunks.proofs.Public.{length-chunks_bytes}
use Rattle.snd_chunks.specs.Written.{NewChunk, chunk_bytes, chunks_bytes, head_bytes}
use Rattle.snd_fields.specs.declared.field.Order.TheVariants.{Big}
use Rattle.snd_layout.specs.Params.{Parameters}
use Rattle.snd_layout.specs.Sector.{is_in_one_sector}
use Rattle.snd_svx.specs.Start.{BeginsWith}
use Rattle.snd_svx.specs.Written.{filler, head_size, new_header, start_without_filler}
use Rattle.snd_wave.proofs.Public.{length-joined, moves, stays}
use Rattle.snd_wave.specs.Start.{filled_start}

svx_filler_bytes : (p : Parameters) (pieces : List NewChunk) → is_in_one_sector (start_without_filler p pieces - 4) 4 ≡ false → length (chunks_bytes Big (filler p pieces)) ≡ 16
unfolding chunks_bytes chunk_bytes head_bytes
svx_filler_bytes p pieces apart = rw apart refl

svx_no_filler_bytes : (p : Parameters) (pieces : List NewChunk) → is_in_one_sector (start_without_filler p pieces - 4) 4 ≡ true → length (chunks_bytes Big (filler p pieces)) ≡ 0
unfolding chunks_bytes
svx_no_filler_bytes p pieces within = rw within refl

header_size : (rate : ℕ) → length (chunk_bytes Big (new_header rate 0)) ≡ 28
unfolding chunk_bytes head_bytes
header_size rate = refl

svx_with : (p : Parameters) (pieces : List NewChunk) → head_size p pieces ≡ start_without_filler p pieces + length (chunks_bytes Big (filler p pieces))
svx_with p pieces =
    omega (arith, length-chunks_bytes Big (new_header p.rate 0) (pieces ++ filler p pieces), length-chunks_bytes Big (new_header p.rate 0) pieces, length-joined Big pieces (filler p pieces))

svx_filled : (p : Parameters) (pieces : List NewChunk) → filled_start (start_without_filler p pieces) 4 ≡ head_size p pieces
svx_filled p pieces = elim (cases_Bool (is_in_one_sector (start_without_filler p pieces - 4) 4)) [
  | inl within ↦ stays (start_without_filler p pieces) 4 (head_size p pieces) within (omega (arith, svx_with p pieces, svx_no_filler_bytes p pieces within))
  | inr apart ↦ moves (start_without_filler p pieces) 4 (head_size p pieces) apart (omega (arith, svx_with p pieces, svx_filler_bytes p pieces apart))
]

svx_plain : (p : Parameters) (pieces : List NewChunk) → start_without_filler p pieces ≡ 48 + length (chunks_bytes Big pieces)
svx_plain p pieces = omega (arith, length-chunks_bytes Big (new_header p.rate 0) pieces, header_size p.rate)

pub begins_svx : (bytes n : ℕ) → n ≡ filled_start (48 + bytes) 4 → BeginsWith bytes n
begins_svx bytes n is p pieces takes =
    let first : 48 + bytes ≡ start_without_filler p pieces = omega (arith, takes, svx_plain p pieces) in
    is ∙ ap (λ (k : ℕ). filled_start k 4) first ∙ svx_filled p pieces
