-- Frames that are read, as the bytes that they become.
use Rattle.std.proofs.Common.{◌≡◌, ◌∙◌, ap, sym, refl, subst, ℕ, ◌+◌, ◌*◌, ◌/◌, ◌%◌, ◌<◌, ◌≤◌, ℤ, pos, Bool, cond, true, false, List, [], ◌∷◌, ◌++◌, All, Option, Some, length, take, drop, arith}
use Rattle.std.proofs.lemmas.List.{length-append, length-take-le, take_all, take_at}
use Rattle.snd_blocks.specs.Sound.{frames_in}
use Rattle.snd_container.specs.Fixed.{byte_count, samples_bytes}
use Rattle.snd_container.specs.Sound.{fixed_of}
use Rattle.snd_container.specs.declared.fixed.Fixed.{Fixed}
use Rattle.snd_disk.specs.Device.{Tells}
use Rattle.snd_disk.specs.State.{AtMost, State}
use Rattle.snd_edits.specs.Bytes.{numbers_in, sources_in}
use Rattle.snd_edits.specs.Edits.{coded_as}
use Rattle.snd_edits.specs.Reading.{HasFrames, bytes_of_frames, bytes_to_read}
use Rattle.snd_fields.specs.Laws.{IsByte}
use Rattle.snd_fields.specs.declared.field.Order.TheVariants.{Little}
use Rattle.snd_ima_adpcm.specs.Frames.{bytes_high_half_first}
use Rattle.snd_vox.specs.Vox.{VoxState, made_even, vox_codes, vox_state_written}
use Rattle.snd_layout.specs.Blocks.{block_align, block_frames, is_adpcm}
use Rattle.snd_layout.specs.Params.{Parameters}
use Rattle.snd_layout.specs.Shape.{Shape}
use Rattle.snd_layout.specs.declared.codec.Codec.{Codec}
use Rattle.snd_layout.specs.declared.codec.Codec.TheVariants.{S16}
use Rattle.snd_output.proofs.Passing.{places_fit, same_numbers, sources_coded}
use Rattle.snd_output.proofs.Public.{bytes_of_samples, frames_size, joined_groups, numbers_counted}
use Rattle.snd_output.specs.Appended.{bytes_in, coded_in, has_two_zeros}
use Rattle.snd_output.specs.Widths.{change_numbers, joined}
use Rattle.snd_pcm.specs.Groups.{first_groups}
use Rattle.snd_export.specs.Coding.{HasCoded, HasNumbers, numbers_at}
use Rattle.snd_export.specs.declared.target.Target.{Target}
use Rattle.snd_export.specs.declared.target.Target.TheVariants as target
use Rattle.snd_export.proofs.Coded.{length-change}

-- numbers that are those of frames are all of them
pub numbers_of : (b : List ℕ) (h : Shape) (place count : ℕ) (xs : List ℤ) → length xs ≡ count * h.params.channels → HasFrames b h place count xs → xs ≡ numbers_at b h place count
numbers_of b h place count xs size has =
    sym (take_all (count * h.params.channels) xs (omega (arith, size))) ∙ sym (joined_groups h.params.channels count xs) ∙ ap joined has

module _ {D : Type 0} (state : D → State) (disk : D) (h : Shape) (codec : Codec) (place count : ℕ) where
  abbrev own : Codec
  own = h.params.codec

  abbrev numbers : ℕ
  numbers = count * h.params.channels

  -- they are as many, in any width
  pub numbers_count : (xs : List ℤ) → length xs ≡ numbers → HasNumbers state disk h codec place count xs → (b : List ℕ) → Tells state disk b → length (numbers_at b h place count) ≡ numbers
  numbers_count xs size has b told = sym (length-change own codec (numbers_at b h place count)) ∙ sym (ap length (has b told)) ∙ size

  -- numbers that are put as samples
  pub samples_put : (form : Fixed) (xs : List ℤ) (front rest : List ℕ) (size : ℕ) (vox : VoxState) → fixed_of codec ≡ Some form → length xs ≡ numbers → HasNumbers state disk h codec place count xs
      → front ≡ samples_bytes form xs → size ≡ length front → size ≡ byte_count form * length xs → HasCoded state disk h (target.Samples codec) place count vox vox size (front ++ rest)
  samples_put form xs front rest size vox form_is many has is whole bytes = record {
    count_is = bytes ∙ ap (λ (n : ℕ). byte_count form * n) many ∙ sym (bytes_of_samples codec form numbers form_is);
    fits = omega (arith, whole, length-append front rest);
    numbers = numbers_count xs many has;
    bytes = λ b told.
        take_at front rest size (sym whole) ∙ is
        ∙ ap (samples_bytes form) (has b told)
        ∙ ap (λ (o : Option Fixed). coded_as o (change_numbers own codec (numbers_at b h place count))) (sym form_is);
    behind = λ b told. refl;
  }

  -- samples that are read, and made those of another codec
  module _ (bytes : List ℕ) (plain : is_adpcm h.params.codec ≡ false) (held : length bytes ≡ bytes_in h.params.codec (count * h.params.channels))
      (has : (b : List ℕ) → Tells state disk b → HasFrames b h place count (numbers_in h.params.codec bytes)) where
    counted : length (numbers_in own bytes) ≡ numbers
    counted = numbers_counted own bytes numbers plain held

    are : (b : List ℕ) → Tells state disk b → numbers_in own bytes ≡ numbers_at b h place count
    are b told = numbers_of b h place count (numbers_in own bytes) counted (has b told)

    pub samples_passed : (size : ℕ) (into : List ℕ) (vox : VoxState) → size ≡ bytes_in codec numbers → size ≤ length into
        → take size into ≡ coded_in codec (change_numbers own codec (numbers_in own bytes)) → HasCoded state disk h (target.Samples codec) place count vox vox size into
    samples_passed size into vox count_is fits is = record {
      count_is = count_is;
      fits = fits;
      numbers = λ b told. sym (ap length (are b told)) ∙ counted;
      bytes = λ b told. is ∙ ap (λ (l : List ℤ). coded_in codec (change_numbers own codec l)) (are b told);
      behind = λ b told. refl;
    }

-- .. or stay
pub samples_kept : {D : Type 0} (state : D → State) (disk : D) (h : Shape) (place count : ℕ) (front rest : List ℕ) (size : ℕ) (vox : VoxState)
    → is_adpcm h.params.codec ≡ false → has_two_zeros h.params.codec ≡ false → length front ≡ bytes_in h.params.codec (count * h.params.channels) → size ≡ length front → All IsByte front
    → ((b : List ℕ) → Tells state disk b → HasFrames b h place count (numbers_in h.params.codec front))
    → HasCoded state disk h (target.Samples h.params.codec) place count vox vox size (front ++ rest)
samples_kept state disk h place count front rest size vox plain one held whole all has =
    let own = h.params.codec in
    let back : front ≡ coded_in own (change_numbers own own (numbers_in own front)) =
    sym (sources_coded own front (count * h.params.channels) plain held all) ∙ ap (coded_in own) (same_numbers own own front (refl, one)) in
    samples_passed state disk h own place count front plain held has size (front ++ rest) vox (whole ∙ held) (omega (arith, whole, length-append front rest)) (take_at front rest size (sym whole) ∙ back)

-- numbers that are put as codes of VOX
pub codes_put : {D : Type 0} (state : D → State) (disk : D) (h : Shape) (place count even : ℕ) (xs ys : List ℤ) (front rest : List ℕ) (size : ℕ) (w w' : VoxState)
    → h.params.channels ≡ 1 → length xs ≡ count → HasNumbers state disk h (S16 Little) place count xs → even ≡ count + count % 2 → ys ≡ made_even xs → size ≡ even / 2 → size ≡ length front
    → front ≡ bytes_high_half_first (vox_codes w ys) → w' ≡ vox_state_written w ys → HasCoded state disk h target.Vox place count w w' size (front ++ rest)
codes_put state disk h place count even xs ys front rest size w w' mono many has even_is are half whole is behind =
    let numbers : count * h.params.channels ≡ count = ap (λ (n : ℕ). count * n) mono ∙ (let e : count * 1 ≡ count = omega arith in e) in
    record {
      count_is = half ∙ (let e : even / 2 ≡ (count + 1) / 2 = omega (arith, even_is) in e) ∙ ap (λ (n : ℕ). (n + 1) / 2) (sym numbers);
      fits = omega (arith, whole, length-append front rest);
      numbers = numbers_count state disk h (S16 Little) place count xs (many ∙ sym numbers) has;
      bytes = λ b told. take_at front rest size (sym whole) ∙ is ∙ ap (λ (l : List ℤ). bytes_high_half_first (vox_codes w l)) (are ∙ ap made_even (has b told));
      behind = λ b told. behind ∙ ap (vox_state_written w) (are ∙ ap made_even (has b told));
    }

-- ---- room for samples that have bytes of their own

-- those of so many frames have at most four bytes each
pub bytes_fit : (codec : Codec) (channels count align most : ℕ) → is_adpcm codec ≡ false → align ≡ block_align channels codec → 4 * (count * channels) ≤ most → count * align ≤ most
bytes_fit codec channels count align most plain is room =
    let sized : count * align ≡ bytes_in codec (count * channels) = ap (λ (n : ℕ). count * n) is ∙ frames_size codec channels count plain in
    let few = places_fit codec (count * channels) (count * channels) plain (omega arith) in
    omega (arith, sized, few, room)

-- what was read in place of a front is still there
pub front_fits : (size : ℕ) (front rest old : List ℕ) → size ≤ length old → length front ≡ length (take size old) → size ≤ length (front ++ rest)
front_fits size front rest old le same = omega (arith, same, length-take-le size old le, length-append front rest)

-- .. and has the bytes of so many numbers
pub front_holds : (own codec : Codec) (channels count align each : ℕ) (front old : List ℕ) (xs : List ℤ) → is_adpcm codec ≡ false → own ≡ codec → align ≡ block_align channels codec → each ≡ channels
    → count * align ≤ length old → length front ≡ length (take (count * align) old) → count * channels ≤ length xs → length front ≡ bytes_in own (length (take (count * each) xs))
front_holds own codec channels count align each front old xs plain same is each_is le kept room =
    let many : count * each ≡ count * channels = ap (λ (n : ℕ). count * n) each_is in
    let taken : length (take (count * each) xs) ≡ count * channels = length-take-le (count * each) xs (omega (arith, many, room)) ∙ many in
    kept ∙ length-take-le (count * align) old le
    ∙ ap (λ (n : ℕ). count * n) is
    ∙ frames_size codec channels count plain
    ∙ sym (ap (bytes_in codec) taken)
    ∙ sym (ap (λ (q : Codec). bytes_in q (length (take (count * each) xs))) same)

-- ---- what is asked for frames whose samples have bytes of their own

pub asks_plain : (p : Parameters) (count a b : ℕ) → is_adpcm p.codec ≡ false → AtMost a (bytes_of_frames p count) b → AtMost a (bytes_to_read p count) b
asks_plain p count a b plain asked =
    let per = block_align p.channels p.codec in
    let same : bytes_to_read p count ≡ bytes_of_frames p count = ap (λ (t : Bool). cond t ((count / block_frames p.codec + 2) * per) (count * per)) plain in
    subst (λ (m : ℕ). AtMost a m b) (sym same) asked
