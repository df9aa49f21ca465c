-- Numbers that are given a piece after the other.
use Rattle.std.proofs.Common.{inl, inr, ◌≡◌, ◌∙◌, ap, sym, subst, refl, ◌+◌, ◌-◌, ◌*◌, ◌/◌, ◌%◌, ◌<◌, ◌≤◌, ℕ, ℤ, List, ◌++◌, length, drop, take, min, arith}
use Rattle.std.proofs.Math.Nat.{div-mul-le_self, mul-div_cancel, le_of_mul-le-mul_left, mul-le-mul_left, mul-le-mul_right, mul-mod_left, mul-mod_right}
use Rattle.std.proofs.Math.Seq.{take-add}
use Rattle.std.proofs.lemmas.Bool.{cases_lt}
use Rattle.std.proofs.lemmas.Grind.{flat_map-append}
use Rattle.std.proofs.lemmas.List.{append_assoc, length-drop, length-take-le, map-append}
use Rattle.snd_blocks.proofs.Public.{groups_joined}
use Rattle.snd_edits.proofs.Public.{whole_frames}
use Rattle.snd_layout.specs.declared.codec.Codec.{Codec}
use Rattle.snd_output.specs.Widths.{change_numbers, width_of}
use Rattle.snd_output.proofs.Numbers.{counts_joined}
use Rattle.snd_output.proofs.Public.{one_fits}
use Rattle.snd_pcm.specs.Groups.{first_groups, groups}
use Rattle.snd_pcm.specs.Width.{changed}
use Rattle.snd_rack.specs.Held.{Held}
use Rattle.snd_rack.specs.Passing.{each_passed, joined, later}
use Rattle.snd_rack.proofs.Public.{later_twice, length_groups, passed_joined}
use Rattle.snd_racking.specs.Appending.{passed_groups}

-- ---- two parts

module _ (channels : ℕ) (some : 1 ≤ channels) (xs ys : List ℤ) (first : length xs % channels ≡ 0) (second : length ys % channels ≡ 0) where
  groups_twice : groups channels (xs ++ ys) ≡ groups channels xs ++ groups channels ys
  groups_twice =
      ap (λ i. first_groups channels i (xs ++ ys)) (counts_joined channels xs ys some first second).0
      ∙ groups_joined channels (length xs / channels) (length ys / channels) xs ys (whole_frames (length xs) channels (length xs / channels) some first refl)

  pub passed_twice : (hs : List Held) → passed_groups channels hs xs ++ passed_groups channels (later (length xs / channels) hs) ys ≡ passed_groups channels hs (xs ++ ys)
  passed_twice hs =
      ap (λ n. passed_groups channels hs xs ++ passed_groups channels (later n hs) ys) (sym (length_groups channels xs))
      ∙ sym (flat_map-append (λ (frame : List ℤ). frame) (each_passed hs (groups channels xs)) (each_passed (later (length (groups channels xs)) hs) (groups channels ys)))
      ∙ ap joined (sym (passed_joined hs (groups channels xs) (groups channels ys)))
      ∙ ap (λ l. joined (each_passed hs l)) (sym groups_twice)

-- numbers of one codec behind others, and both in another codec
pub changed_on : (from to : Codec) (xs a b : List ℤ) → (xs ++ change_numbers from to a) ++ change_numbers from to b ≡ xs ++ change_numbers from to (a ++ b)
changed_on from to xs a b =
    append_assoc xs (change_numbers from to a) (change_numbers from to b) ∙ ap (λ l. xs ++ l) (sym (map-append (changed (width_of from) (width_of to)) a b))

-- ---- one piece more

module _ (channels : ℕ) (numbers : List ℤ) (at n : ℕ) (some : 1 ≤ channels) (before : at % channels ≡ 0) (fits : at + n ≤ length numbers) (whole : n % channels ≡ 0) where
  abbrev front : List ℤ
  front = take at numbers

  abbrev piece : List ℤ
  piece = take n (drop at numbers)

  front_size : length front ≡ at
  front_size = length-take-le at numbers (omega (arith, fits))

  pub piece_size : length piece ≡ n
  piece_size = length-take-le n (drop at numbers) (omega (arith, fits, length-drop at numbers))

  front_whole : length front % channels ≡ 0
  front_whole = ap (λ i. i % channels) front_size ∙ before

  pub piece_whole : length piece % channels ≡ 0
  piece_whole = ap (λ i. i % channels) piece_size ∙ whole

  counts : (length (front ++ piece) / channels ≡ length front / channels + length piece / channels) × (length (front ++ piece) % channels ≡ 0)
  counts = counts_joined channels front piece some front_whole piece_whole

  both : length (front ++ piece) ≡ at + n
  both = ap length (sym (take-add at n numbers)) ∙ length-take-le (at + n) numbers fits

  pub count_more : at / channels + length piece / channels ≡ (at + n) / channels
  count_more = ap (λ i. i / channels + length piece / channels) (sym front_size) ∙ sym counts.0 ∙ ap (λ i. i / channels) both

  pub whole_more : (at + n) % channels ≡ 0
  whole_more = ap (λ i. i % channels) (sym both) ∙ counts.1

  pub passed_more : (hs : List Held) → passed_groups channels hs front ++ passed_groups channels (later (at / channels) hs) piece ≡ passed_groups channels hs (take (at + n) numbers)
  passed_more hs =
      ap (λ i. passed_groups channels hs front ++ passed_groups channels (later (i / channels) hs) piece) (sym front_size)
      ∙ passed_twice channels some front piece front_whole piece_whole hs
      ∙ ap (passed_groups channels hs) (sym (take-add at n numbers))

  pub states_more : (hs : List Held) → later (length piece / channels) (later (at / channels) hs) ≡ later ((at + n) / channels) hs
  states_more hs = later_twice (at / channels) (length piece / channels) hs ∙ ap (λ i. later i hs) count_more

-- ---- the size of a piece

-- what is left of whole frames are whole frames
left_whole : (channels all at : ℕ) → 1 ≤ channels → all % channels ≡ 0 → at % channels ≡ 0 → at ≤ all → (all - at) % channels ≡ 0
left_whole channels all at some whole before within =
    let a = all / channels in
    let b = at / channels in
    let all_is : all ≡ channels * a = whole_frames all channels a some whole refl in
    let at_is : at ≡ channels * b = whole_frames at channels b some before refl in
    let times : channels * b ≤ channels * a = omega (arith, all_is, at_is, within) in
    let le : b ≤ a = le_of_mul-le-mul_left {m = b} {n = a} {k = channels} times (let e : 0 < channels = omega (arith, some) in e) in
    let sum : channels * a ≡ channels * (b + (a - b)) = ap (λ i. channels * i) (let e : a ≡ b + (a - b) = omega (arith, le) in e) in
    let rest : all - at ≡ channels * (a - b) = omega (arith, all_is, at_is, sum) in
    ap (λ i. i % channels) rest ∙ mul-mod_right channels (a - b)

pub turn_whole : (channels most all at n : ℕ) → 1 ≤ channels → most % channels ≡ 0 → all % channels ≡ 0 → at % channels ≡ 0 → at ≤ all → n ≡ min most (all - at) → n % channels ≡ 0
turn_whole channels most all at n some piece whole before within is = elim (cases_lt most (all - at)) [
  | inl more ↦ ap (λ i. i % channels) (let e : n ≡ most = omega (arith, is, more) in e) ∙ piece
  | inr last ↦ ap (λ i. i % channels) (let e : n ≡ all - at = omega (arith, is, last) in e) ∙ left_whole channels all at some whole before within
]

-- fewer frames are fewer numbers behind the stages
pub turn_fits : (channels after most n room : ℕ) → 1 ≤ channels → most % channels ≡ 0 → n % channels ≡ 0 → n ≤ most → most / channels * after ≤ room → n / channels * after ≤ room
turn_fits channels after most n room some piece whole few fits =
    let n_is : n ≡ channels * (n / channels) = whole_frames n channels (n / channels) some whole refl in
    let most_is : most ≡ channels * (most / channels) = whole_frames most channels (most / channels) some piece refl in
    let times : channels * (n / channels) ≤ channels * (most / channels) = omega (arith, n_is, most_is, few) in
    let le : n / channels ≤ most / channels = le_of_mul-le-mul_left {m = n / channels} {n = most / channels} {k = channels} times (let e : 0 < channels = omega (arith, some) in e) in
    let more : n / channels * after ≤ most / channels * after = mul-le-mul_right {m = n / channels} {n = most / channels} after le in
    omega (arith, more, fits)

-- ---- how many numbers are passed at a time

pub piece_is : (channels after room : ℕ) → 1 ≤ channels → 1 ≤ after → after ≤ room
    → (1 ≤ room / after * channels) × ((room / after * channels) % channels ≡ 0) × (room / after * channels / channels * after ≤ room)
piece_is channels after room some one fits =
    let q : 1 ≤ room / after = one_fits room after one fits in
    let times : channels * 1 ≤ channels * (room / after) = mul-le-mul_left channels q in
    let back : room / after * channels / channels ≡ room / after = mul-div_cancel (room / after) (let e : 0 < channels = omega (arith, some) in e) in (
      omega (arith, times, some),
      mul-mod_left (room / after) channels,
      subst (λ i. i * after ≤ room) (sym back) (div-mul-le_self room after),
    )
