-- A block of frames that is read as the bytes of their samples, and put through stages behind those of another file.
use Rattle.std.proofs.Common.{◌≡◌, ◌∙◌, ap, sym, subst, refl, ◌+◌, ◌*◌, ◌/◌, ◌%◌, ◌<◌, ◌≤◌, ℕ, ℤ, List, All, Option, Some, length, take, false, arith}
use Rattle.std.proofs.Math.Nat.{mul-div_cancel, mul-le-mul_right, mul-mod_left}
use Rattle.std.proofs.lemmas.Nat.{div-add-mod'}
use Rattle.std.proofs.lemmas.List.{length-take-le}
use Rattle.std.specs.Prelude.{min}
use Rattle.snd_container.specs.Fixed.{InRange, range_form}
use Rattle.snd_container.specs.Sound.{fixed_of}
use Rattle.snd_container.specs.declared.fixed.Fixed as fixed
use Rattle.snd_container.specs.declared.fixed.Fixed.{Fixed}
use Rattle.snd_container.specs.declared.fixed.Fixed.TheVariants.{Linear}
use Rattle.snd_container.proofs.Public.{samples_fit}
use Rattle.snd_edits.specs.Bytes.{AreWhole, numbers_as, numbers_in}
use Rattle.snd_edits.specs.Calls.{count_read}
use Rattle.snd_edits.specs.Editing.{Editing, frames_read}
use Rattle.snd_edits.specs.Known.{Known}
use Rattle.snd_edits.specs.Reading.{FitCodec}
use Rattle.snd_edits.proofs.Public.{count_numbers, fits_form, in_form, numbers_are_whole}
use Rattle.snd_fields.specs.Laws.{IsByte}
use Rattle.snd_layout.specs.Blocks.{block_align, is_adpcm}
use Rattle.snd_layout.specs.Params.{Parameters}
use Rattle.snd_layout.specs.declared.codec.Codec.{Codec}
use Rattle.snd_layout.specs.declared.codec.Codec.TheVariants.{U8, S8, S16, S24, S32, MuLaw, ALaw, Ima, Ms}
use Rattle.snd_output.specs.Appended.{HasRoom, IsLonger, Pass, left_in}
use Rattle.snd_output.specs.Widths.{change_numbers, width_of}
use Rattle.snd_output.proofs.Passing.{align_least, front_numbers}
use Rattle.snd_output.proofs.Public.{count_fits, longer_as, room_fewer, some_form}
use Rattle.snd_pcm.specs.Groups.{first_groups}
use Rattle.snd_pcm.specs.Pcm.{bit_count}
use Rattle.snd_pcm.specs.declared.linear.Linear as linear
use Rattle.snd_rack.specs.Held.{Held}
use Rattle.snd_recode.specs.Recoded.{changed_all, recoded}
use Rattle.snd_recode.proofs.Public.{recoded_fit}
use Rattle.snd_racking.specs.Appending.{MayAppendRacked, frames_of_bytes, next_passed, passed_groups}
use Rattle.snd_racking.proofs.Appended.{block_is}
use Rattle.snd_racking.proofs.Passed.{stages_fit}

-- ---- numbers that are changed to the width of another codec are in its range

width_is : (codec : Codec) (form : Fixed) → fixed_of codec ≡ Some form → width_of codec ≡ bit_count (range_form form)
width_is U8 form is = let same : Linear linear.TheVariants.U8 ≡ form = cc in ap (λ (f : Fixed). bit_count (range_form f)) same
width_is S8 form is = let same : Linear linear.TheVariants.S8 ≡ form = cc in ap (λ (f : Fixed). bit_count (range_form f)) same
width_is (S16 order) form is = let same : Linear (linear.TheVariants.S16 order) ≡ form = cc in ap (λ (f : Fixed). bit_count (range_form f)) same
width_is (S24 order) form is = let same : Linear (linear.TheVariants.S24 order) ≡ form = cc in ap (λ (f : Fixed). bit_count (range_form f)) same
width_is (S32 order) form is = let same : Linear (linear.TheVariants.S32 order) ≡ form = cc in ap (λ (f : Fixed). bit_count (range_form f)) same
width_is MuLaw form is = let same : fixed.TheVariants.MuLaw ≡ form = cc in ap (λ (f : Fixed). bit_count (range_form f)) same
width_is ALaw form is = let same : fixed.TheVariants.ALaw ≡ form = cc in ap (λ (f : Fixed). bit_count (range_form f)) same
width_is (Ima align per_block) form is = absurd cc
width_is (Ms align per_block) form is = absurd cc

pub change_fits : (from to : Codec) (xs : List ℤ) → Pass from to → FitCodec from xs → FitCodec to (change_numbers from to xs)
change_fits from to xs pass fit =
    let old = some_form from pass.0 in
    let new = some_form to pass.1 in
    let is : change_numbers from to xs ≡ recoded old.0 new.0 xs =
    ap (λ (w : ℕ). changed_all w (width_of to) xs) (width_is from old.0 old.1) ∙ ap (λ (w : ℕ). changed_all (bit_count (range_form old.0)) w xs) (width_is to new.0 new.1) in
    fits_form to new.0 (change_numbers from to xs) new.1 (subst (All (InRange new.0)) (sym is) (recoded_fit old.0 new.0 xs (in_form from old.0 xs old.1 fit)))

-- bytes stand for numbers in range
pub bytes_fit : (codec : Codec) (b : List ℕ) → is_adpcm codec ≡ false → All IsByte b → FitCodec codec (numbers_in codec b)
bytes_fit codec b fixed all =
    let form = some_form codec fixed in
    fits_form codec form.0 (numbers_in codec b) form.1 (subst (λ (o : Option Fixed). All (InRange form.0) (numbers_as o b)) (sym form.1) (samples_fit form.0 b all))

-- ---- places for the bytes of so many frames

module _ (p : Parameters) (n align : ℕ) (bytes : List ℕ) (fixed : is_adpcm p.codec ≡ false) (size : align ≡ block_align p.channels p.codec) (fits : n * align ≤ length bytes) where
  sized : length (take (n * align) bytes) ≡ n * block_align p.channels p.codec
  sized = length-take-le (n * align) bytes fits ∙ ap (λ (i : ℕ). n * i) size

  pub places_numbers : length (numbers_in p.codec (take (n * align) bytes)) ≡ n * p.channels
  places_numbers = count_numbers p.codec p.channels n (take (n * align) bytes) fixed sized

  pub places_whole : AreWhole p (length (take (n * align) bytes))
  places_whole = ap (λ (i : ℕ). i % block_align p.channels p.codec) sized ∙ mul-mod_left n (block_align p.channels p.codec)

  pub places_frames : 1 ≤ p.channels → frames_of_bytes p (length (take (n * align) bytes)) ≡ n
  places_frames some =
      let each : 0 < block_align p.channels p.codec = omega (arith, some, align_least p.codec p.channels fixed) in
      ap (λ (i : ℕ). i / block_align p.channels p.codec) sized ∙ mul-div_cancel n each

-- ---- the block

module _ (hs : List Held) (from to : Known) (k align to_align : ℕ) (old bytes : List ℕ) (may : MayAppendRacked hs from to) (pass : Pass from.shape.params.codec to.shape.params.codec) (some : 1 ≤ from.shape.params.channels) (to_some : 1 ≤ to.shape.params.channels)
    (whole : AreWhole from.shape.params (length old)) (same : length bytes ≡ length old) (size : align ≡ block_align from.shape.params.channels from.shape.params.codec)
    (to_size : to_align ≡ block_align to.shape.params.channels to.shape.params.codec) (is : k ≡ count_read (length (numbers_in from.shape.params.codec old)) from) where
  abbrev p : Parameters
  p = from.shape.params

  abbrev q : Parameters
  q = to.shape.params

  abbrev each : ℕ
  each = block_align p.channels p.codec

  abbrev to_each : ℕ
  to_each = block_align q.channels q.codec

  abbrev places : ℕ
  places = length (numbers_in p.codec old)

  abbrev frames : ℕ
  frames = frames_of_bytes p (length old)

  parts : frames * each ≡ length old
  parts = let e : frames * each + length old % each ≡ length old = div-add-mod' (length old) each in omega (arith, e, whole)

  counted : places ≡ frames * p.channels
  counted = count_numbers p.codec p.channels frames old pass.0 (sym parts)

  places_are_whole : places % p.channels ≡ 0
  places_are_whole = numbers_are_whole p old pass.0 whole

  fits : (k ≤ left_in from) × (k * p.channels ≤ places)
  fits = count_fits from places k some places_are_whole is

  few : k ≤ frames
  few =
      let all : places / p.channels ≡ frames = ap (λ (n : ℕ). n / p.channels) counted ∙ mul-div_cancel frames (let e : 0 < p.channels = omega (arith, some) in e) in
      let least : k ≡ min (places / p.channels) (left_in from) = is in
      omega (arith, all, least)

  taken : k * align ≡ k * each
  taken = ap (λ (i : ℕ). k * i) size

  to_taken : k * to_align ≡ k * to_each
  to_taken = ap (λ (i : ℕ). k * i) to_size

  pub bytes_within : k * align ≤ length bytes
  bytes_within = omega (arith, taken, mul-le-mul_right each few, parts, same)

  pub given_within : (n : ℕ) → frames * to_each ≤ n → k * to_align ≤ n
  given_within n room = omega (arith, to_taken, mul-le-mul_right to_each few, room)

  some_each : 0 < each
  some_each = omega (arith, some, align_least p.codec p.channels pass.0)

  some_to_each : 0 < to_each
  some_to_each = omega (arith, to_some, align_least q.codec q.channels pass.1)

  held_size : length (take (k * align) bytes) ≡ k * each
  held_size = length-take-le (k * align) bytes bytes_within ∙ taken

  pub held_whole : AreWhole p (length (take (k * align) bytes))
  held_whole = ap (λ (n : ℕ). n % each) held_size ∙ mul-mod_left k each

  pub held_frames : frames_of_bytes p (length (take (k * align) bytes)) ≡ k
  held_frames = ap (λ (n : ℕ). n / each) held_size ∙ mul-div_cancel k some_each

  pub given_fits : (n : ℕ) → n ≡ k * to_align → n ≡ frames_of_bytes p (length (take (k * align) bytes)) * to_each
  given_fits n e = e ∙ to_taken ∙ ap (λ (i : ℕ). i * to_each) (sym held_frames)

  pub given_whole : (n : ℕ) → n ≡ k * to_align → AreWhole q n
  given_whole n e = ap (λ (i : ℕ). i % to_each) (e ∙ to_taken) ∙ mul-mod_left k to_each

  pub given_frames : (n : ℕ) → n ≡ k * to_align → frames_of_bytes q n ≡ k
  given_frames n e = ap (λ (i : ℕ). i / to_each) (e ∙ to_taken) ∙ mul-div_cancel k some_to_each

  pub given_room : (n : ℕ) → n ≡ k * to_align → HasRoom (frames_of_bytes q n) to
  given_room n e = subst (λ (i : ℕ). HasRoom i to) (sym (given_frames n e)) (room_fewer to k (left_in from) may.together fits.0 may.in_room)

  pub given_longer : (n : ℕ) (to' : Known) → n ≡ k * to_align → IsLonger (frames_of_bytes q n) to to' → IsLonger k to to'
  given_longer n to' e longer = longer_as (frames_of_bytes q n) k to to' (given_frames n e) longer

  -- what the frames become
  abbrev pub given : List ℤ
  given = change_numbers p.codec q.codec (passed_groups p.channels hs (numbers_in p.codec (take (k * align) bytes)))

  pub given_fit : FitCodec p.codec (numbers_in p.codec (take (k * align) bytes)) → FitCodec q.codec given
  given_fit fit =
      change_fits p.codec q.codec (passed_groups p.channels hs (numbers_in p.codec (take (k * align) bytes))) pass
      (stages_fit p.codec p.channels hs (numbers_in p.codec (take (k * align) bytes)) may.placed.passable fit)

  -- .. is what the next ones of the file that is read do
  pub given_is : (r : Editing) → first_groups p.channels k (numbers_in p.codec bytes) ≡ frames_read r k → given ≡ change_numbers p.codec q.codec (next_passed hs k r)
  given_is r gives =
      let block = numbers_in p.codec bytes in
      let alike : length block ≡ places = count_numbers p.codec p.channels frames bytes pass.0 (same ∙ sym parts) ∙ sym counted in
      let front : numbers_in p.codec (take (k * align) bytes) ≡ take (k * p.channels) block =
      ap (λ (n : ℕ). numbers_in p.codec (take n bytes)) taken ∙ front_numbers p bytes k pass.0 (omega (arith, taken, bytes_within)) in
      ap (λ (l : List ℤ). change_numbers p.codec q.codec (passed_groups p.channels hs l)) front
      ∙ block_is hs from to k p.channels block p.codec may (ap (λ (n : ℕ). n % p.channels) alike ∙ places_are_whole) (is ∙ ap (λ (n : ℕ). count_read n from) (sym alike)) refl some r q.codec refl gives
