-- Frames that are read as the bytes of their samples: how many numbers bytes are, and those of joined bytes.
use Rattle.std.proofs.Common.{◌≡◌, ◌∙◌, ap, sym, refl, ℕ, ◌+◌, ◌*◌, ◌/◌, ◌%◌, ◌≤◌, Bool, false, List, ◌++◌, Option, None, Some, length, take, drop, min, arith}
use Rattle.std.proofs.Math.Nat.{mul-div_cancel_left, mul-mod_left}
use Rattle.std.proofs.lemmas.Nat.{div-add-mod'}
use Rattle.std.specs.Prelude.{if◌then◌else◌, is_none}
use Rattle.snd_blocks.specs.Frames.{has_bad}
use Rattle.snd_blocks.specs.Sound.{frames_in}
use Rattle.snd_container.specs.Fixed.{byte_count, samples}
use Rattle.snd_container.specs.Sound.{fixed_of}
use Rattle.snd_container.specs.declared.fixed.Fixed.{Fixed}
use Rattle.snd_container.proofs.Public.{byte_count_pos, length-samples, samples_of_joined}
use Rattle.snd_layout.specs.Blocks.{block_align, block_frames, is_adpcm}
use Rattle.snd_layout.specs.Params.{Parameters}
use Rattle.snd_layout.specs.Shape.{Shape}
use Rattle.snd_layout.specs.declared.codec.Codec.{Codec}
use Rattle.snd_pcm.specs.Groups.{first_groups}
use Rattle.snd_edits.specs.Bytes.{AreWhole, numbers_as, numbers_in}
use Rattle.snd_edits.specs.Reading.{HasFrames, bytes_of_frames, bytes_to_read}
use Rattle.snd_edits.proofs.FixedFrames.{count_of, good_read, is_fixed}
use Rattle.snd_edits.proofs.SoundFrames.{groups_of_piece, linear_align}

-- the bytes of so many frames are those of so many samples
pub bytes_counted : (codec : Codec) (form : Fixed) (channels count size : ℕ) → fixed_of codec ≡ Some form → size ≡ count * block_align channels codec
    → size ≡ byte_count form * (channels * count)
bytes_counted codec form channels count size is all =
    all ∙ ap (λ (m : ℕ). count * m) (linear_align codec form channels is)
    ∙ (let e : count * (byte_count form * channels) ≡ byte_count form * (channels * count) = omega arith in e)

-- ---- how many numbers bytes are

count_as : (o : Option Fixed) (codec : Codec) (channels count : ℕ) (bytes : List ℕ) → fixed_of codec ≡ o → is_none o ≡ false
    → length bytes ≡ count * block_align channels codec → length (numbers_as o bytes) ≡ count * channels
count_as None codec channels count bytes is some size = absurd (cc)
count_as (Some form) codec channels count bytes is some size =
    length-samples form bytes
    ∙ ap (λ (m : ℕ). m / byte_count form) (bytes_counted codec form channels count (length bytes) is size)
    ∙ mul-div_cancel_left (channels * count) (byte_count_pos form)
    ∙ (let e : channels * count ≡ count * channels = omega arith in e)

pub count_numbers : (codec : Codec) (channels count : ℕ) (bytes : List ℕ) → is_adpcm codec ≡ false → length bytes ≡ count * block_align channels codec
    → length (numbers_in codec bytes) ≡ count * channels
count_numbers codec channels count bytes other size = count_as (fixed_of codec) codec channels count bytes refl (is_fixed codec other) size

-- those of whole frames are the numbers of as many frames
module _ (p : Parameters) (bytes : List ℕ) (other : is_adpcm p.codec ≡ false) (whole : AreWhole p (length bytes)) where
  whole_numbers : length (numbers_in p.codec bytes) ≡ length bytes / block_align p.channels p.codec * p.channels
  whole_numbers =
      let align = block_align p.channels p.codec in
      let parts : length bytes / align * align + length bytes % align ≡ length bytes = div-add-mod' (length bytes) align in
      count_numbers p.codec p.channels (length bytes / align) bytes other (omega (arith, parts, whole))

  pub numbers_are_whole : length (numbers_in p.codec bytes) % p.channels ≡ 0
  numbers_are_whole = ap (λ (m : ℕ). m % p.channels) whole_numbers ∙ mul-mod_left (length bytes / block_align p.channels p.codec) p.channels

  frames_counted : 1 ≤ p.channels → length (numbers_in p.codec bytes) / p.channels ≡ length bytes / block_align p.channels p.codec
  frames_counted some = count_of (length (numbers_in p.codec bytes)) p.channels (length bytes / block_align p.channels p.codec) some whole_numbers

  -- .. so as many frames are read, of those that are left
  pub frames_ahead : (align left count : ℕ) → 1 ≤ p.channels → align ≡ block_align p.channels p.codec → count ≡ min (length bytes / align) left
      → count ≡ min (length (numbers_in p.codec bytes) / p.channels) left
  frames_ahead align left count some is ahead =
      ahead ∙ ap (λ (m : ℕ). min (length bytes / m) left) is ∙ ap (λ (m : ℕ). min m left) (sym (frames_counted some))

-- ---- frames in front of other bytes

front_as : (o : Option Fixed) (codec : Codec) (channels count : ℕ) (piece rest : List ℕ) → fixed_of codec ≡ o → is_none o ≡ false
    → length piece ≡ count * block_align channels codec → first_groups channels count (numbers_as o (piece ++ rest)) ≡ first_groups channels count (numbers_as o piece)
front_as None codec channels count piece rest is some size = absurd (cc)
front_as (Some form) codec channels count piece rest is some size =
    let all = count_as (Some form) codec channels count piece is refl size in
    ap (first_groups channels count) (samples_of_joined form piece rest (channels * count) (bytes_counted codec form channels count (length piece) is size))
    ∙ groups_of_piece channels count (samples form piece) (samples form rest) (omega (arith, all))

pub frames_in_front : (codec : Codec) (channels count : ℕ) (piece rest : List ℕ) → is_adpcm codec ≡ false → length piece ≡ count * block_align channels codec
    → first_groups channels count (numbers_in codec (piece ++ rest)) ≡ first_groups channels count (numbers_in codec piece)
frames_in_front codec channels count piece rest other size = front_as (fixed_of codec) codec channels count piece rest refl (is_fixed codec other) size

-- none of the frames that were read is bad
pub good_bytes : (b : List ℕ) (s : Shape) (place count : ℕ) (bytes : List ℕ) → is_adpcm s.params.codec ≡ false → 1 ≤ s.params.channels
    → length bytes ≡ bytes_of_frames s.params count → HasFrames b s place count (numbers_in s.params.codec bytes) → has_bad (take count (drop place (frames_in b s))) ≡ false
good_bytes b s place count bytes other some size told =
    good_read b s place count (numbers_in s.params.codec bytes) some (count_numbers s.params.codec s.params.channels count bytes other size) told

-- what is asked of the disk for so many frames is their bytes
pub bytes_asked : (p : Parameters) (count counted : ℕ) → is_adpcm p.codec ≡ false → counted ≡ count → bytes_of_frames p counted ≡ bytes_to_read p count
bytes_asked p count counted other is =
    ap (bytes_of_frames p) is
    ∙ sym (ap (λ (t : Bool). if t then (count / block_frames p.codec + 2) * block_align p.channels p.codec else bytes_of_frames p count) other)
