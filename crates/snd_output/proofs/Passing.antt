-- Samples that pass from one file to another by their bytes.
use Rattle.std.proofs.Common.{◌≡◌, ◌∙◌, ap, sym, subst, refl, ℕ, ◌+◌, ◌*◌, ◌/◌, ◌%◌, ◌<◌, ◌≤◌, ℤ, List, [], ◌++◌, All, Option, Some, length, take, min, true, false, arith}
use Rattle.std.proofs.Math.Nat.{mul-div_cancel, mul-le-mul_left, mul-le-mul_right, mul-mod_left}
use Rattle.std.proofs.lemmas.Nat.{div-add-mod'}
use Rattle.std.proofs.lemmas.List.{length-map, length-take-le, take_at}
use Rattle.std.specs.Prelude.{Err, Result, is_none}
use Rattle.snd_fields.specs.Laws.{IsByte}
use Rattle.snd_layout.specs.Blocks.{block_align, block_frames, is_adpcm}
use Rattle.snd_layout.specs.Params.{Parameters}
use Rattle.snd_layout.specs.declared.codec.Codec.{Codec}
use Rattle.snd_layout.specs.declared.codec.Codec.TheVariants.{U8, S8, S16, S24, S32, MuLaw, ALaw, Ima, Ms}
use Rattle.snd_container.specs.Fixed.{InRange, byte_count, range_form, samples, samples_bytes}
use Rattle.snd_container.specs.Sound.{fixed_of}
use Rattle.snd_container.specs.declared.fixed.Fixed as fixed
use Rattle.snd_container.specs.declared.fixed.Fixed.{Fixed}
use Rattle.snd_container.specs.declared.fixed.Fixed.TheVariants.{Linear}
use Rattle.snd_container.proofs.Public.{byte_count_pos, count_of_bytes, length-samples, samples_fit, samples_of_parts, sources_written}
use Rattle.snd_edits.specs.Bytes.{AreWhole, numbers_as, numbers_in, sources_as, sources_in}
use Rattle.snd_edits.specs.Calls.{ReadLeaves, count_read}
use Rattle.snd_edits.specs.Editing.{Editing, frames_read}
use Rattle.snd_edits.specs.Edits.{coded_as}
use Rattle.snd_edits.specs.Known.{Known}
use Rattle.snd_edits.specs.Reading.{FitCodec, bytes_of_frames}
use Rattle.snd_edits.specs.declared.error.ReadError.{ReadError}
use Rattle.snd_edits.specs.declared.error.ReadError.TheVariants.{BadBlock}
use Rattle.snd_edits.proofs.Public.{count_numbers, count_of_given, fits_form, fits_given, frame_bytes, linear_align, linear_frames, numbers_are_whole}
use Rattle.snd_pcm.specs.Groups.{first_groups}
use Rattle.snd_pcm.specs.Pcm.{bit_count}
use Rattle.snd_pcm.specs.Width.{changed}
use Rattle.snd_pcm.specs.declared.linear.Linear as linear
use Rattle.snd_recode.specs.Recoded.{changed_all, recoded}
use Rattle.snd_recode.proofs.Public.{all_same_width, recoded_fit}
use Rattle.snd_output.specs.Appended.{HasRoom, IsAtEnd, MayAppend, MayGive, MayPass, Pass, bytes_in, coded_in, has_two_zeros, left_in, next_numbers}
use Rattle.snd_output.specs.Widths.{change_numbers, width_of}
use Rattle.snd_output.proofs.Appending.{block_numbers, count_fits, room_fewer}

-- what has no blocks has a form, and its frames are blocks of one
pub some_form : (codec : Codec) → is_adpcm codec ≡ false → (form : Fixed) × (fixed_of codec ≡ Some form)
some_form U8 is = (Linear linear.TheVariants.U8, refl)
some_form S8 is = (Linear linear.TheVariants.S8, refl)
some_form (S16 order) is = (Linear (linear.TheVariants.S16 order), refl)
some_form (S24 order) is = (Linear (linear.TheVariants.S24 order), refl)
some_form (S32 order) is = (Linear (linear.TheVariants.S32 order), refl)
some_form MuLaw is = (fixed.TheVariants.MuLaw, refl)
some_form ALaw is = (fixed.TheVariants.ALaw, refl)
some_form (Ima align per_block) is = absurd cc
some_form (Ms align per_block) is = absurd cc

pub fixed_frames_are : (codec : Codec) → is_adpcm codec ≡ false → 1 ≤ block_frames codec
fixed_frames_are codec fixed = let form = some_form codec fixed in omega (arith, linear_frames codec form.0 form.1)

-- no block is bad where there are none
pub no_bad_block : (places : ℕ) (old new : Known) (result : Result ℕ ReadError) (error : ReadError) → is_adpcm old.shape.params.codec ≡ false → ReadLeaves places old new result → result ≡ Err error
    → error ≡ BadBlock → ⊥
no_bad_block places old new result error fixed left is bad =
    let leaves : ReadLeaves places old new (Err BadBlock) = subst (ReadLeaves places old new) (is ∙ ap (λ (e : ReadError). Err e) bad) left in
    let e : true ≡ false = sym leaves.1 ∙ fixed in
    cc

-- ---- the bytes of so many samples

pub size_of : (codec : Codec) (form : Fixed) (n : ℕ) → fixed_of codec ≡ Some form → bytes_in codec n ≡ byte_count form * n
size_of codec form n is = sym (frame_bytes codec form 1 n n is (omega arith))

pub numbers_counted : (codec : Codec) (b : List ℕ) (n : ℕ) → is_adpcm codec ≡ false → length b ≡ bytes_in codec n → length (numbers_in codec b) ≡ n
numbers_counted codec b n fixed size = count_numbers codec 1 n b fixed size ∙ (let e : n * 1 ≡ n = omega arith in e)

-- they are of as many numbers as they stand for
pub sources_counted : (codec : Codec) (b : List ℕ) (n : ℕ) → is_adpcm codec ≡ false → length b ≡ bytes_in codec n → length (sources_in codec b) ≡ n
sources_counted codec b n fixed size =
    let form = (some_form codec fixed).0 in
    let is = (some_form codec fixed).1 in
    count_of_given codec b form is
    ∙ sym (ap (λ (o : Option Fixed). length (numbers_as o b)) is ∙ length-samples form b)
    ∙ numbers_counted codec b n fixed size

-- of frames
pub frames_size : (codec : Codec) (channels k : ℕ) → is_adpcm codec ≡ false → k * block_align channels codec ≡ bytes_in codec (k * channels)
frames_size codec channels k fixed =
    let form = (some_form codec fixed).0 in
    let is = (some_form codec fixed).1 in
    sym (frame_bytes codec form channels k (k * channels) is refl) ∙ sym (size_of codec form (k * channels) is)

frames_whole : (p : Parameters) (n : ℕ) → is_adpcm p.codec ≡ false → n % p.channels ≡ 0 → AreWhole p (bytes_in p.codec n)
frames_whole p n fixed whole =
    let q = n / p.channels in
    let parts : q * p.channels + n % p.channels ≡ n = div-add-mod' n p.channels in
    let all : n ≡ q * p.channels = omega (arith, parts, whole) in
    ap (λ (m : ℕ). m % block_align p.channels p.codec) (ap (bytes_in p.codec) all ∙ sym (frames_size p.codec p.channels q fixed)) ∙ mul-mod_left q (block_align p.channels p.codec)

-- bytes of whole frames may pass
pub may_pass : (k : Known) (b : List ℕ) (n : ℕ) → is_adpcm k.shape.params.codec ≡ false → length b ≡ bytes_in k.shape.params.codec n → n % k.shape.params.channels ≡ 0
    → IsAtEnd k → HasRoom (n / k.shape.params.channels) k → MayPass b k
may_pass k b n fixed size whole at_end roomy =
    let p = k.shape.params in
    record {
      at_end = at_end;
      whole = ap (λ (m : ℕ). m % block_align p.channels p.codec) size ∙ frames_whole p n fixed whole;
      roomy = subst (λ (m : ℕ). HasRoom (m / p.channels) k) (sym (sources_counted p.codec b n fixed size)) roomy;
    }

-- bytes that may be given are those of numbers that may
pub may_give_bytes : (b : List ℕ) (k : Known) → MayPass b k → is_none (fixed_of k.shape.params.codec) ≡ false → is_adpcm k.shape.params.codec ≡ false → All IsByte b → MayGive (sources_in k.shape.params.codec b) k
may_give_bytes b k may form fixed bytes =
    let p = k.shape.params in
    let is = some_form p.codec fixed in
    let as_many : length (sources_in p.codec b) ≡ length (numbers_in p.codec b) =
    count_of_given p.codec b is.0 is.1 ∙ sym (ap (λ (o : Option Fixed). length (numbers_as o b)) is.1 ∙ length-samples is.0 b) in
    record {
      at_end = may.at_end;
      whole = ap (λ (m : ℕ). m % p.channels) as_many ∙ numbers_are_whole p b fixed may.whole;
      in_range = fits_given p.codec b form bytes;
      roomy = may.roomy;
    }

-- bytes of as many frames as a block has places for have as many numbers
pub same_places : (p : Parameters) (b : List ℕ) (n : ℕ) → is_adpcm p.codec ≡ false → n % p.channels ≡ 0 → length b ≡ bytes_of_frames p (n / p.channels) → length (numbers_in p.codec b) ≡ n
same_places p b n fixed whole size =
    let all : n / p.channels * p.channels + n % p.channels ≡ n = div-add-mod' n p.channels in
    omega (arith, count_numbers p.codec p.channels (n / p.channels) b fixed size, all, whole)

-- a frame has a byte for each channel at least
pub align_least : (codec : Codec) (channels : ℕ) → is_adpcm codec ≡ false → channels ≤ block_align channels codec
align_least codec channels fixed =
    let form = (some_form codec fixed).0 in
    let times : 1 * channels ≤ byte_count form * channels = mul-le-mul_right channels (let e : 1 ≤ byte_count form = omega (arith, byte_count_pos form) in e) in
    omega (arith, times, linear_align codec form channels (some_form codec fixed).1)

-- a sample has four bytes at most
few_bytes : (form : Fixed) → byte_count form ≤ 4
few_bytes (Linear linear.TheVariants.U8) = omega arith
few_bytes (Linear linear.TheVariants.S8) = omega arith
few_bytes (Linear (linear.TheVariants.S16 order)) = omega arith
few_bytes (Linear (linear.TheVariants.S24 order)) = omega arith
few_bytes (Linear (linear.TheVariants.S32 order)) = omega arith
few_bytes fixed.TheVariants.MuLaw = omega arith
few_bytes fixed.TheVariants.ALaw = omega arith

-- a sample becomes no more than four bytes
pub places_fit : (to : Codec) (m most : ℕ) → is_adpcm to ≡ false → m ≤ most → bytes_in to m ≤ 4 * most
places_fit to m most fixed few =
    let form = some_form to fixed in
    let each : byte_count form.0 * m ≤ 4 * m = mul-le-mul_right m (few_bytes form.0) in
    let all : 4 * m ≤ 4 * most = mul-le-mul_left 4 few in
    omega (arith, size_of to form.0 m form.1, each, all)

-- a frame has no more than four bytes for each channel
pub align_most : (codec : Codec) (channels : ℕ) → is_adpcm codec ≡ false → block_align channels codec ≤ 4 * channels
align_most codec channels fixed =
    let form = some_form codec fixed in
    omega (arith, mul-le-mul_right channels (few_bytes form.0), linear_align codec form.0 channels form.1)

-- fewer frames have no more
pub within : (k n size all : ℕ) → k ≤ n → n * size ≤ all → k * size ≤ all
within k n size all fewer fits = omega (arith, mul-le-mul_right size fewer, fits)

-- as many frames as fit
pub many_fit : (n size k : ℕ) → k ≤ n / size → k * size ≤ n
many_fit n size k few = omega (arith, mul-le-mul_right size few, div-add-mod' n size)

-- ---- samples of another codec

-- the width of a codec is that of its form
width_is : (codec : Codec) (form : Fixed) → fixed_of codec ≡ Some form → width_of codec ≡ bit_count (range_form form)
width_is U8 form is = let same : Linear linear.TheVariants.U8 ≡ form = cc in ap (λ (f : Fixed). bit_count (range_form f)) same
width_is S8 form is = let same : Linear linear.TheVariants.S8 ≡ form = cc in ap (λ (f : Fixed). bit_count (range_form f)) same
width_is (S16 order) form is = let same : Linear (linear.TheVariants.S16 order) ≡ form = cc in ap (λ (f : Fixed). bit_count (range_form f)) same
width_is (S24 order) form is = let same : Linear (linear.TheVariants.S24 order) ≡ form = cc in ap (λ (f : Fixed). bit_count (range_form f)) same
width_is (S32 order) form is = let same : Linear (linear.TheVariants.S32 order) ≡ form = cc in ap (λ (f : Fixed). bit_count (range_form f)) same
width_is MuLaw form is = let same : fixed.TheVariants.MuLaw ≡ form = cc in ap (λ (f : Fixed). bit_count (range_form f)) same
width_is ALaw form is = let same : fixed.TheVariants.ALaw ≡ form = cc in ap (λ (f : Fixed). bit_count (range_form f)) same
width_is (Ima align per_block) form is = absurd cc
width_is (Ms align per_block) form is = absurd cc

-- samples as those of another codec
changed_is : (from to : Codec) (old new : Fixed) (b : List ℕ) → fixed_of from ≡ Some old → fixed_of to ≡ Some new → change_numbers from to (numbers_in from b) ≡ recoded old new (samples old b)
changed_is from to old new b from_is to_is =
    ap (λ (o : Option Fixed). change_numbers from to (numbers_as o b)) from_is
    ∙ ap (λ (w : ℕ). changed_all w (width_of to) (samples old b)) (width_is from old from_is)
    ∙ ap (λ (w : ℕ). changed_all (bit_count (range_form old)) w (samples old b)) (width_is to new to_is)

-- a buffer of which they are the front has their bytes there
pub recoded_bytes : (from to : Codec) (old new : Fixed) (bytes front rest : List ℕ) (n : ℕ) → fixed_of from ≡ Some old → fixed_of to ≡ Some new
    → front ≡ samples_bytes new (recoded old new (samples old bytes)) → n ≡ length front → take n (front ++ rest) ≡ coded_in to (change_numbers from to (numbers_in from bytes))
recoded_bytes from to old new bytes front rest n from_is to_is is size =
    take_at front rest n (sym size) ∙ is
    ∙ ap (samples_bytes new) (sym (changed_is from to old new bytes from_is to_is))
    ∙ ap (λ (o : Option Fixed). coded_as o (change_numbers from to (numbers_in from bytes))) (sym to_is)

-- they are in the range of that codec
pub changed_fit : (from to : Codec) (b : List ℕ) → Pass from to → All IsByte b → FitCodec to (change_numbers from to (numbers_in from b))
changed_fit from to b pass all =
    let old = some_form from pass.0 in
    let new = some_form to pass.1 in
    fits_form to new.0 (change_numbers from to (numbers_in from b)) new.1
    (subst (All (InRange new.0)) (sym (changed_is from to old.0 new.0 b old.1 new.1)) (recoded_fit old.0 new.0 (samples old.0 b) (samples_fit old.0 b all)))

pub changed_counted : (from to : Codec) (b : List ℕ) (n : ℕ) → is_adpcm from ≡ false → length b ≡ bytes_in from n → length (change_numbers from to (numbers_in from b)) ≡ n
changed_counted from to b n fixed size = length-map (numbers_in from b) (changed (width_of from) (width_of to)) ∙ numbers_counted from b n fixed size

pub coded_are_bytes : (codec : Codec) (xs : List ℤ) → is_adpcm codec ≡ false → All IsByte (coded_in codec xs)
coded_are_bytes codec xs fixed =
    let form = some_form codec fixed in
    subst (λ (o : Option Fixed). All IsByte (coded_as o xs)) (sym form.1) (count_of_bytes form.0 xs).1

-- bytes are written of the numbers of which they are
pub sources_coded : (codec : Codec) (b : List ℕ) (n : ℕ) → is_adpcm codec ≡ false → length b ≡ bytes_in codec n → All IsByte b → coded_in codec (sources_in codec b) ≡ b
sources_coded codec b n fixed size all =
    let form = (some_form codec fixed).0 in
    let is = (some_form codec fixed).1 in
    ap (λ (o : Option Fixed). coded_as o (sources_as o b)) is ∙ sources_written form b n (size ∙ size_of codec form n is) all

-- where no two samples stand for one number, these are the numbers that they stand for
one_source : (codec : Codec) (b : List ℕ) → has_two_zeros codec ≡ false → sources_in codec b ≡ numbers_in codec b
one_source U8 b one = refl
one_source S8 b one = refl
one_source (S16 order) b one = refl
one_source (S24 order) b one = refl
one_source (S32 order) b one = refl
one_source MuLaw b one = absurd cc
one_source ALaw b one = refl
one_source (Ima align per_block) b one = refl
one_source (Ms align per_block) b one = refl

-- and of one codec they are the same
pub same_numbers : (from to : Codec) (b : List ℕ) → (from ≡ to) × (has_two_zeros from ≡ false) → sources_in to b ≡ change_numbers from to (numbers_in from b)
same_numbers from to b same =
    ap (λ (q : Codec). sources_in q b) (sym same.0)
    ∙ one_source from b same.1
    ∙ sym (all_same_width (width_of from) (numbers_in from b))
    ∙ ap (λ (q : Codec). change_numbers from q (numbers_in from b)) same.0

-- ---- the first frames

-- so many frames as are read into bytes have no more bytes than these
pub front_fits : (p : Parameters) (n k left : ℕ) → is_adpcm p.codec ≡ false → 1 ≤ p.channels → n % p.channels ≡ 0 → k ≡ min (n / p.channels) left
    → (k * p.channels ≤ n) × (k * block_align p.channels p.codec ≤ bytes_of_frames p (n / p.channels))
front_fits p n k left fixed some whole is =
    let q = n / p.channels in
    let parts : q * p.channels + n % p.channels ≡ n = div-add-mod' n p.channels in
    let few : k ≤ q = omega (arith, is) in
    let times : p.channels * k ≤ p.channels * q = mul-le-mul_left p.channels few in
    let align = block_align p.channels p.codec in
    let aligned : align * k ≤ align * q = mul-le-mul_left align few in
    let turn : p.channels * k ≡ k * p.channels = omega arith in
    let turned : p.channels * q ≡ q * p.channels = omega arith in
    let turn_align : align * k ≡ k * align = omega arith in
    let turned_align : align * q ≡ q * align = omega arith in
    (omega (arith, parts, whole, times, turn, turned), omega (arith, aligned, turn_align, turned_align))

-- their numbers are the first ones
pub front_numbers : (p : Parameters) (b : List ℕ) (k : ℕ) → is_adpcm p.codec ≡ false → k * block_align p.channels p.codec ≤ length b
    → numbers_in p.codec (take (k * block_align p.channels p.codec) b) ≡ take (k * p.channels) (numbers_in p.codec b)
front_numbers p b k fixed fits =
    let form = (some_form p.codec fixed).0 in
    let is = (some_form p.codec fixed).1 in
    let size : k * block_align p.channels p.codec ≡ byte_count form * (k * p.channels) = frames_size p.codec p.channels k fixed ∙ size_of p.codec form (k * p.channels) is in
    ap (λ (o : Option Fixed). numbers_as o (take (k * block_align p.channels p.codec) b)) is
    ∙ ap (λ (n : ℕ). samples form (take n b)) size
    ∙ (samples_of_parts form b (k * p.channels) (omega (arith, size, fits))).0
    ∙ ap (λ (o : Option Fixed). take (k * p.channels) (numbers_as o b)) (sym is)

-- frames that were read into bytes, of as many as a block has places for
module _ (from to : Known) (n k m align : ℕ) (old bytes : List ℕ) (may : MayAppend from to) (pass : Pass from.shape.params.codec to.shape.params.codec) (channels : m ≡ from.shape.params.channels) (some : 1 ≤ m)
    (whole : n % from.shape.params.channels ≡ 0) (held : length old ≡ bytes_of_frames from.shape.params (n / from.shape.params.channels)) (same : length bytes ≡ length old)
    (size : align ≡ block_align from.shape.params.channels from.shape.params.codec) (is : k ≡ count_read (length (numbers_in from.shape.params.codec old)) from) where
  abbrev p : Parameters
  p = from.shape.params

  pub count_is : k ≡ count_read n from
  count_is = is ∙ ap (λ (i : ℕ). count_read i from) (same_places p old n pass.0 whole held)

  some_channel : 1 ≤ p.channels
  some_channel = omega (arith, channels, some)

  fits : (k * p.channels ≤ n) × (k * block_align p.channels p.codec ≤ bytes_of_frames p (n / p.channels))
  fits = front_fits p n k (left_in from) pass.0 some_channel whole count_is

  left : k ≤ left_in from
  left = (count_fits from n k some_channel whole count_is).0

  numbers : k * m ≡ k * p.channels
  numbers = ap (λ (i : ℕ). k * i) channels

  pub numbers_within : k * m ≤ n
  numbers_within = omega (arith, numbers, fits.0)

  taken : k * align ≡ k * block_align p.channels p.codec
  taken = ap (λ (i : ℕ). k * i) size

  pub bytes_within : k * align ≤ length bytes
  bytes_within = omega (arith, taken, fits.1, same, held)

  pub bytes_taken : length (take (k * align) bytes) ≡ bytes_in p.codec (k * m)
  bytes_taken = length-take-le (k * align) bytes bytes_within ∙ taken ∙ frames_size p.codec p.channels k pass.0 ∙ ap (bytes_in p.codec) (sym numbers)

  to_numbers : k * m ≡ k * to.shape.params.channels
  to_numbers = numbers ∙ ap (λ (i : ℕ). k * i) may.alike

  pub frames_counted : k * m / to.shape.params.channels ≡ k
  frames_counted = ap (λ (i : ℕ). i / to.shape.params.channels) to_numbers ∙ mul-div_cancel k (let e : 0 < to.shape.params.channels = omega (arith, some_channel, may.alike) in e)

  pub frames_are_whole : (k * m) % to.shape.params.channels ≡ 0
  frames_are_whole = ap (λ (i : ℕ). i % to.shape.params.channels) to_numbers ∙ mul-mod_left k to.shape.params.channels

  pub room_left : 1 ≤ block_frames to.shape.params.codec → HasRoom (k * m / to.shape.params.channels) to
  room_left one = subst (λ (i : ℕ). HasRoom i to) (sym frames_counted) (room_fewer to k (left_in from) one left may.in_room)

  -- they pass as the numbers of the next frames
  pub passed : (r : Editing) → first_groups p.channels k (numbers_in p.codec bytes) ≡ frames_read r k
      → change_numbers p.codec to.shape.params.codec (numbers_in p.codec (take (k * align) bytes)) ≡ change_numbers p.codec to.shape.params.codec (next_numbers k r)
  passed r gives =
      ap (λ (i : ℕ). change_numbers p.codec to.shape.params.codec (numbers_in p.codec (take i bytes))) taken
      ∙ ap (change_numbers p.codec to.shape.params.codec) (front_numbers p bytes k pass.0 (omega (arith, taken, bytes_within)) ∙ block_numbers p.channels k (numbers_in p.codec bytes) r gives)

-- in ADPCM bytes are of no numbers
pub no_numbers : (codec : Codec) (b : List ℕ) → is_adpcm codec ≡ true → sources_in codec b ≡ []
no_numbers U8 b is = absurd cc
no_numbers S8 b is = absurd cc
no_numbers (S16 order) b is = absurd cc
no_numbers (S24 order) b is = absurd cc
no_numbers (S32 order) b is = absurd cc
no_numbers MuLaw b is = absurd cc
no_numbers ALaw b is = absurd cc
no_numbers (Ima align per_block) b is = refl
no_numbers (Ms align per_block) b is = refl
