-- A layout of what is found on a disk counts its whole frames, and has their numbers.
use Rattle.std.proofs.Common.{◌≡◌, ◌∙◌, ℕ, ◌-◌, ◌*◌, ◌/◌, ◌^◌, ◌≤◌, false, List, length, take, drop, sym, ap, arith}
use Rattle.std.proofs.lemmas.List.{length-drop, length-take, places, same_lists}
use Rattle.snd_blocks.specs.Sound.{frames_in}
use Rattle.snd_container.specs.Sound.{sound_bytes}
use Rattle.snd_edits.specs.Bytes.{numbers_in}
use Rattle.snd_layout.specs.Blocks.{block_align, is_adpcm}
use Rattle.snd_layout.specs.Params.{data_bytes}
use Rattle.snd_layout.specs.Shape.{Shape}
use Rattle.snd_output.specs.Widths.{joined}
use Rattle.snd_search.proofs.Public.{plain_bytes, whole_fits}
use Rattle.snd_search.specs.Sought.{counted, shape_at}
use Rattle.snd_salvage.proofs.Numbers.{numbers_are}
use Rattle.snd_salvage.specs.Salvage.{frame_count, numbers_of, whole_frames}

-- a part that lies within the front of a list
in_front : (n m start : ℕ) (b : List ℕ) → n ≤ length (drop start (take m b)) → take n (drop start b) ≡ take n (drop start (take m b))
in_front n m start b le = same_lists _ _ (grind (arith, places, le)) (λ i e lt. grind (arith, places, le))

module _ (b : List ℕ) (h : Shape) (plain : is_adpcm h.params.codec ≡ false) (some : 1 ≤ h.params.channels) (within : h.start ≤ length (counted b))
    (is : h ≡ shape_at h.params h.start (length (counted b))) where
  pub frames_are : h.frames ≡ frame_count h.params (drop h.start (counted b))
  frames_are = ap (λ (s : Shape). s.frames) is ∙ ap (λ (n : ℕ). n / block_align h.params.channels h.params.codec) (sym (length-drop h.start (counted b)))

  bytes_are : data_bytes h.params h.frames ≡ frame_count h.params (drop h.start (counted b)) * block_align h.params.channels h.params.codec
  bytes_are = plain_bytes h.params h.frames plain ∙ ap (λ (n : ℕ). n * block_align h.params.channels h.params.codec) frames_are

  fits : frame_count h.params (drop h.start (counted b)) * block_align h.params.channels h.params.codec ≤ length (drop h.start (counted b))
  fits = whole_fits (length (drop h.start (counted b))) (block_align h.params.channels h.params.codec)

  sound_is : sound_bytes b h ≡ whole_frames h.params (drop h.start (counted b))
  sound_is =
      ap (λ (n : ℕ). take n (drop h.start b)) bytes_are
      ∙ in_front (frame_count h.params (drop h.start (counted b)) * block_align h.params.channels h.params.codec) (2 ^ 63 - 8) h.start b fits

  sound_long : length (sound_bytes b h) ≡ data_bytes h.params h.frames
  sound_long =
      ap length sound_is
      ∙ omega (arith, fits, bytes_are, length-take (frame_count h.params (drop h.start (counted b)) * block_align h.params.channels h.params.codec) (drop h.start (counted b)))

  pub numbers_found : joined (frames_in b h) ≡ numbers_of h.params (drop h.start (counted b))
  numbers_found = numbers_are b h plain some sound_long ∙ ap (λ (l : List ℕ). numbers_in h.params.codec l) sound_is
