-- The numbers of whole frames are those of their bytes.
use Rattle.std.proofs.Common.{◌≡◌, ◌∙◌, ℕ, zero, suc, ℤ, ◌+◌, ◌*◌, ◌/◌, ◌≤◌, ◌<◌, false, List, ◌++◌, Option, None, Some, length, take, drop, refl, ap, arith}
use Rattle.std.proofs.Math.Nat.{mul-div_cancel_left}
use Rattle.std.proofs.lemmas.List.{places, same_lists, take_all}
use Rattle.std.specs.Prelude.{is_none}
use Rattle.snd_blocks.specs.Sound.{frames_in}
use Rattle.snd_container.proofs.Public.{byte_count_pos, length-samples}
use Rattle.snd_container.specs.Fixed.{byte_count, samples}
use Rattle.snd_container.specs.Sound.{decoded_as, fixed_of, sound_bytes}
use Rattle.snd_container.specs.declared.fixed.Fixed.{Fixed}
use Rattle.snd_edits.proofs.Public.{frames_fixed, is_fixed, linear_bytes}
use Rattle.snd_edits.specs.Bytes.{numbers_as, numbers_in}
use Rattle.snd_layout.specs.Blocks.{is_adpcm}
use Rattle.snd_layout.specs.Params.{Parameters, data_bytes}
use Rattle.snd_layout.specs.Shape.{Shape}
use Rattle.snd_pcm.specs.Groups.{first_groups, groups}
use Rattle.snd_output.specs.Widths.{joined}

splits : (k m : ℕ) (xs : List ℤ) → take k xs ++ take m (drop k xs) ≡ take (k + m) xs
splits k m xs = same_lists _ _ (grind (arith, places)) (λ i d lt. grind (arith, places))

joined_first : (k n : ℕ) (xs : List ℤ) → joined (first_groups k n xs) ≡ take (k * n) xs
joined_first k zero xs = ap (λ (m : ℕ). take m xs) (let e : 0 ≡ k * 0 = omega arith in e)
joined_first k (suc n) xs =
    ap (λ (l : List ℤ). take k xs ++ l) (joined_first k n (drop k xs))
    ∙ splits k (k * n) xs
    ∙ ap (λ (m : ℕ). take m xs) (let e : k + k * n ≡ k * suc n = omega arith in e)

joined_groups : (k n : ℕ) (xs : List ℤ) → 1 ≤ k → length xs ≡ k * n → joined (groups k xs) ≡ xs
joined_groups k n xs some long =
    joined_first k (length xs / k) xs
    ∙ ap (λ (m : ℕ). take (k * m) xs) (ap (λ (m : ℕ). m / k) long ∙ mul-div_cancel_left n (let e : 0 < k = omega (arith, some) in e))
    ∙ take_all (k * n) xs (let e : length xs ≤ k * n = omega (arith, long) in e)

by_form : (form : Fixed) (channels n : ℕ) (bytes : List ℕ) → 1 ≤ channels → length bytes ≡ byte_count form * (channels * n)
    → joined (groups channels (samples form bytes)) ≡ samples form bytes
by_form form channels n bytes some long =
    joined_groups channels n (samples form bytes) some
    (length-samples form bytes ∙ ap (λ (m : ℕ). m / byte_count form) long ∙ mul-div_cancel_left (channels * n) (byte_count_pos form))

some_form : (o : Option Fixed) (channels n : ℕ) (bytes : List ℕ) (p : Parameters) → fixed_of p.codec ≡ o → p.channels ≡ channels → is_none o ≡ false
    → 1 ≤ channels → length bytes ≡ data_bytes p n → joined (decoded_as o channels bytes) ≡ numbers_as o bytes
some_form None channels n bytes p is same linear some long = absurd (cc)
some_form (Some form) channels n bytes p is same linear some long =
    by_form form channels n bytes some (long ∙ linear_bytes p form n is ∙ ap (λ (m : ℕ). byte_count form * (m * n)) same)

-- the numbers of the frames that a layout counts
pub numbers_are : (b : List ℕ) (h : Shape) → is_adpcm h.params.codec ≡ false → 1 ≤ h.params.channels
    → length (sound_bytes b h) ≡ data_bytes h.params h.frames → joined (frames_in b h) ≡ numbers_in h.params.codec (sound_bytes b h)
numbers_are b h plain some long =
    let linear = is_fixed h.params.codec plain in
    ap (λ (frames : List (List ℤ)). joined frames) (frames_fixed b h linear)
    ∙ some_form (fixed_of h.params.codec) h.params.channels h.frames (sound_bytes b h) h.params refl refl linear some long
