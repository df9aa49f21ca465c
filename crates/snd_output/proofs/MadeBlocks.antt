-- How many blocks numbers of ADPCM fill, and the bytes of these.
use Rattle.std.proofs.Common.{◌≡◌, ◌∙◌, ap, ℕ, ℤ, ◌*◌, ◌/◌, ◌<◌, ◌≤◌, List, [], ◌++◌, length, take, arith}
use Rattle.std.proofs.Math.Nat.{div-mul-le_self, le-div_iff_mul-le, mul-le-mul_right, zero-div}
use Rattle.std.proofs.lemmas.List.{length-append, length-take}
use Rattle.snd_ima_adpcm.specs.Blocks.{filled}
use Rattle.snd_blocks.specs.Calls.{AreBlocks}
use Rattle.snd_block_writer.specs.Coded.{block_numbers, coded, whole, whole_blocks}
use Rattle.snd_block_writer.proofs.Public.{filled_few, length-coded, length-whole, some_channel, some_numbers}
use Rattle.snd_layout.specs.Blocks.{block_align}
use Rattle.snd_layout.specs.Params.{Parameters}

no_longer : (n : ℕ) (xs : List ℤ) → length (take n xs) ≤ length xs
no_longer n xs = omega (arith, length-take n xs)

module _ (p : Parameters) (form : AreBlocks p) where
  pub channels : 1 ≤ p.channels
  channels = some_channel p.channels form.channels

  some : 0 < block_numbers p
  some = some_numbers p form

  -- no numbers fill none
  pub none_whole : length (whole p []) / p.channels ≡ 0
  none_whole =
      let none : length (whole p []) ≡ 0 = omega (arith, no_longer (whole_blocks p [] * block_numbers p) []) in
      ap (λ (m : ℕ). m / p.channels) none ∙ zero-div p.channels

  -- more numbers fill no fewer
  pub whole_more : (xs ys : List ℤ) → length (coded p (whole p xs)) ≤ length (coded p (whole p (xs ++ ys)))
  whole_more xs ys =
      let count : whole_blocks p xs ≤ whole_blocks p (xs ++ ys) =
      (le-div_iff_mul-le {k = block_numbers p} {x = whole_blocks p xs} {y = length (xs ++ ys)} some).1 (omega (arith, div-mul-le_self (length xs) (block_numbers p), length-append xs ys)) in
      omega (arith, (length-whole p form xs).1, (length-whole p form (xs ++ ys)).1, mul-le-mul_right (block_align p.channels p.codec) count)

  -- .. and all of them no fewer than whole ones
  pub whole_least : (xs : List ℤ) → length (coded p (whole p xs)) ≤ length (coded p xs)
  whole_least xs =
      let n = block_numbers p in
      let few = filled_few n xs some in
      let count : whole_blocks p xs ≤ length (filled n xs) / n =
      (le-div_iff_mul-le {k = n} {x = whole_blocks p xs} {y = length (filled n xs)} some).1 (omega (arith, div-mul-le_self (length xs) n, few.0)) in
      omega (arith, (length-whole p form xs).1, length-coded p form xs, mul-le-mul_right (block_align p.channels p.codec) count)
