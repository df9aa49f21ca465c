-- A block has the bytes that its size says.
use Rattle.std.proofs.Common.{◌≡◌, ◌⊎◌, ◌∙◌, refl, sym, ap, subst, inl, inr, ℕ, ℤ, pos, negsuc, zero, suc, ◌-◌, ◌*◌, ◌/◌, ◌%◌, ◌≤◌, List, [], ◌∷◌, ◌++◌, length, drop, arith}
use Rattle.std.specs.Prelude.{◌==◌, IsTrue, nat_le}
use Rattle.std.proofs.lemmas.Bool.{and_parts, eqb-true, leb-true}
use Rattle.std.proofs.lemmas.List.{length-append, length-drop}
use Rattle.snd_ima_adpcm.proofs.Public.{length-bytes_low, length-firsts, length-ima_codes, length-seconds}
use Rattle.snd_ima_adpcm.specs.Frames.{alternating, bytes_16, bytes_high_half_first, firsts, fours, seconds}
use Rattle.snd_ima_adpcm.specs.Ima.{Indices, ima_body, ima_bytes, ima_codes, ima_head}
use Rattle.snd_ms_adpcm.specs.Microsoft.{ms_bytes, ms_code, ms_codes, ms_codes_for, ms_delta, ms_delta_for, ms_newer_of, ms_number_for, ms_older_of, ms_sample}
use Rattle.snd_fields.specs.Blocks.{is_ima_align, ima_samples_per_block, is_ms_align, ms_samples_per_block}
use Rattle.snd_layout.specs.declared.codec.Codec.{Codec}
use Rattle.snd_layout.specs.declared.codec.Codec.TheVariants.{Ima, Ms}
use Rattle.snd_layout.specs.Blocks.{block_align, block_frames}
use Rattle.snd_layout.specs.Params.{Parameters}
use Rattle.snd_blocks.specs.Calls.{AreBlocks, HasForm}
use Rattle.snd_block_writer.specs.Coded.{block_numbers}
use Rattle.snd_block_writer.specs.Writing.{block_bytes}

length-bytes_16 : (x : ℤ) → length (bytes_16 x) ≡ 2
length-bytes_16 (pos n) = refl
length-bytes_16 (negsuc n) = refl

-- ---- IMA

length-head : (index : ℕ) (xs : List ℤ) → 1 ≤ length xs → length (ima_head index xs) ≡ 4
length-head index [] some = absurd (omega arith)
length-head index (x ∷ xs) some = omega (arith, length-append (bytes_16 x) (index ∷ 0 ∷ []), length-bytes_16 x)

length-body : (index : ℕ) (xs : List ℤ) → 1 ≤ length xs → length (ima_body index xs) ≡ (length xs - 1) / 2
length-body index [] some = absurd (omega arith)
length-body index (x ∷ xs) some = length-bytes_low (ima_codes x index xs) ∙ ap (λ (m : ℕ). m / 2) (length-ima_codes x index xs ∙ (let e : length xs ≡ length (x ∷ xs) - 1 = omega arith in e))

length-fours : (k : ℕ) (xs ys : List ℕ) → length xs ≡ 4 * k → length ys ≡ 4 * k → length (fours xs ys) ≡ 8 * k
length-fours zero [] ys p q = refl
length-fours zero (x ∷ xs) ys p q = absurd (omega arith)
length-fours (suc k) (a ∷ b ∷ c ∷ d ∷ xs) (e ∷ f ∷ g ∷ h ∷ ys) p q = omega (arith, length-fours k xs ys (omega arith) (omega arith))
length-fours (suc k) xs ys p q = absurd (omega arith)

ima_size_mono : (align : ℕ) (indices : Indices) (xs : List ℤ) → IsTrue (is_ima_align 1 align) → length xs ≡ 1 * ima_samples_per_block 1 align → length (ima_bytes 1 indices xs) ≡ align
ima_size_mono align indices xs aligned size =
    let least : 4 * 1 ≤ align = leb-true (4 * 1) align (and_parts (nat_le (4 * 1) align) ((align - 4 * 1) % (4 * 1) == 0) aligned).0 in
    omega (arith, length-append (ima_head indices.0 xs) (ima_body indices.0 xs), length-head indices.0 xs (omega (arith, size)), length-body indices.0 xs (omega (arith, size)), size, least)

ima_size_stereo : (align : ℕ) (indices : Indices) (xs : List ℤ) → IsTrue (is_ima_align 2 align) → length xs ≡ 2 * ima_samples_per_block 2 align → length (ima_bytes 2 indices xs) ≡ align
ima_size_stereo align indices xs aligned size =
    let parts = and_parts (nat_le (4 * 2) align) ((align - 4 * 2) % (4 * 2) == 0) aligned in
    let least : 4 * 2 ≤ align = leb-true (4 * 2) align parts.0 in
    let none : (align - 4 * 2) % (4 * 2) ≡ 0 = eqb-true ((align - 4 * 2) % (4 * 2)) 0 parts.1 in
    let left = firsts xs in
    let right = seconds xs in
    let k = (align - 8) / 8 in
    let some_left : 1 ≤ length left = omega (arith, size, length-firsts xs) in
    let some_right : 1 ≤ length right = omega (arith, size, length-seconds xs) in
    let left_size : length (ima_body indices.0 left) ≡ 4 * k = omega (arith, length-body indices.0 left some_left, size, length-firsts xs, least, none) in
    let right_size : length (ima_body indices.1 right) ≡ 4 * k = omega (arith, length-body indices.1 right some_right, size, length-seconds xs, least, none) in
    omega (
      arith,
      length-append (ima_head indices.0 left ++ ima_head indices.1 right) (fours (ima_body indices.0 left) (ima_body indices.1 right)),
      length-append (ima_head indices.0 left) (ima_head indices.1 right),
      length-head indices.0 left some_left,
      length-head indices.1 right some_right,
      length-fours k (ima_body indices.0 left) (ima_body indices.1 right) left_size right_size,
      least,
      none,
    )

ima_size : (channels align : ℕ) (indices : Indices) (xs : List ℤ) → (channels ≡ 1) ⊎ (channels ≡ 2) → IsTrue (is_ima_align channels align)
    → length xs ≡ channels * ima_samples_per_block channels align → length (ima_bytes channels indices xs) ≡ align
ima_size channels align indices xs (inl one) =
    subst (λ (n : ℕ). IsTrue (is_ima_align n align) → length xs ≡ n * ima_samples_per_block n align → length (ima_bytes n indices xs) ≡ align) (sym one) (ima_size_mono align indices xs)
ima_size channels align indices xs (inr two) =
    subst (λ (n : ℕ). IsTrue (is_ima_align n align) → length xs ≡ n * ima_samples_per_block n align → length (ima_bytes n indices xs) ≡ align) (sym two) (ima_size_stereo align indices xs)

-- ---- Microsoft

length-ms_codes : (newer_by older_by newer older delta : ℤ) (xs : List ℤ) → length (ms_codes newer_by older_by newer older delta xs) ≡ length xs
length-ms_codes newer_by older_by newer older delta [] = refl
length-ms_codes newer_by older_by newer older delta (x ∷ xs) =
    let code = ms_code newer_by older_by newer older delta x in
    ap suc (length-ms_codes newer_by older_by (ms_sample newer_by older_by newer older delta code) newer (ms_delta delta code) xs)

length-bytes_high : (xs : List ℕ) → length (bytes_high_half_first xs) ≡ length xs / 2
length-bytes_high [] = refl
length-bytes_high (x ∷ []) = refl
length-bytes_high (x ∷ y ∷ xs) = omega (arith, length-bytes_high xs)

pub length-alternating : {X : Type 0} (xs ys : List X) → length xs ≡ length ys → length (alternating xs ys) ≡ 2 * length xs
length-alternating [] ys e = refl
length-alternating (x ∷ xs) [] e = absurd (omega arith)
length-alternating (x ∷ xs) (y ∷ ys) e = omega (arith, length-alternating xs ys (omega arith))

ms_size_mono : (align : ℕ) (xs : List ℤ) → IsTrue (is_ms_align 1 align) → length xs ≡ 1 * ms_samples_per_block 1 align → length (ms_bytes 1 xs) ≡ align
ms_size_mono align xs aligned size =
    let least : 7 * 1 ≤ align = leb-true (7 * 1) align (and_parts (nat_le (7 * 1) align) ((align - 7 * 1) * 2 % 1 == 0) aligned).0 in
    let n = ms_number_for xs ∷ [] in
    let d = bytes_16 (pos (ms_delta_for xs)) in
    let one = bytes_16 (ms_newer_of xs) in
    let two = bytes_16 (ms_older_of xs) in
    let codes = ms_codes_for xs in
    let count : length codes ≡ length (drop 2 xs) = length-ms_codes _ _ _ _ _ (drop 2 xs) in
    omega (
      arith,
      length-append (n ++ d ++ one ++ two) (bytes_high_half_first codes),
      length-append (n ++ d ++ one) two,
      length-append (n ++ d) one,
      length-append n d,
      length-bytes_16 (pos (ms_delta_for xs)),
      length-bytes_16 (ms_newer_of xs),
      length-bytes_16 (ms_older_of xs),
      length-bytes_high codes,
      count,
      length-drop 2 xs,
      size,
      least,
    )

ms_size_stereo : (align : ℕ) (xs : List ℤ) → IsTrue (is_ms_align 2 align) → length xs ≡ 2 * ms_samples_per_block 2 align → length (ms_bytes 2 xs) ≡ align
ms_size_stereo align xs aligned size =
    let least : 7 * 2 ≤ align = leb-true (7 * 2) align (and_parts (nat_le (7 * 2) align) ((align - 7 * 2) * 2 % 2 == 0) aligned).0 in
    let l = firsts xs in
    let r = seconds xs in
    let n = (ms_number_for l ∷ []) ++ (ms_number_for r ∷ []) in
    let dl = bytes_16 (pos (ms_delta_for l)) in
    let dr = bytes_16 (pos (ms_delta_for r)) in
    let al = bytes_16 (ms_newer_of l) in
    let ar = bytes_16 (ms_newer_of r) in
    let bl = bytes_16 (ms_older_of l) in
    let br = bytes_16 (ms_older_of r) in
    let lefts = ms_codes_for l in
    let rights = ms_codes_for r in
    let left_count : length lefts ≡ length (drop 2 l) = length-ms_codes _ _ _ _ _ (drop 2 l) in
    let right_count : length rights ≡ length (drop 2 r) = length-ms_codes _ _ _ _ _ (drop 2 r) in
    let same : length lefts ≡ length rights = omega (arith, left_count, right_count, length-drop 2 l, length-drop 2 r, length-firsts xs, length-seconds xs, size) in
    omega (
      arith,
      length-append (n ++ (dl ++ dr) ++ (al ++ ar) ++ (bl ++ br)) (bytes_high_half_first (alternating lefts rights)),
      length-append (n ++ (dl ++ dr) ++ (al ++ ar)) (bl ++ br),
      length-append (n ++ (dl ++ dr)) (al ++ ar),
      length-append n (dl ++ dr),
      length-append dl dr,
      length-append al ar,
      length-append bl br,
      length-bytes_16 (pos (ms_delta_for l)),
      length-bytes_16 (pos (ms_delta_for r)),
      length-bytes_16 (ms_newer_of l),
      length-bytes_16 (ms_newer_of r),
      length-bytes_16 (ms_older_of l),
      length-bytes_16 (ms_older_of r),
      length-bytes_high (alternating lefts rights),
      length-alternating lefts rights same,
      left_count,
      length-drop 2 l,
      length-firsts xs,
      size,
      least,
    )

ms_size : (channels align : ℕ) (xs : List ℤ) → (channels ≡ 1) ⊎ (channels ≡ 2) → IsTrue (is_ms_align channels align)
    → length xs ≡ channels * ms_samples_per_block channels align → length (ms_bytes channels xs) ≡ align
ms_size channels align xs (inl one) =
    subst (λ (n : ℕ). IsTrue (is_ms_align n align) → length xs ≡ n * ms_samples_per_block n align → length (ms_bytes n xs) ≡ align) (sym one) (ms_size_mono align xs)
ms_size channels align xs (inr two) =
    subst (λ (n : ℕ). IsTrue (is_ms_align n align) → length xs ≡ n * ms_samples_per_block n align → length (ms_bytes n xs) ≡ align) (sym two) (ms_size_stereo align xs)

-- ---- both

size_by : (channels : ℕ) (codec : Codec) (indices : Indices) (xs : List ℤ) → (channels ≡ 1) ⊎ (channels ≡ 2) → HasForm channels codec → length xs ≡ channels * block_frames codec
    → length (block_bytes channels codec indices xs) ≡ block_align channels codec
unfolding block_bytes
size_by channels (Ima align per_block) indices xs few form size = ima_size channels align indices xs few form.0 (size ∙ ap (λ (m : ℕ). channels * m) form.1)
size_by channels (Ms align per_block) indices xs few form size = ms_size channels align xs few form.0 (size ∙ ap (λ (m : ℕ). channels * m) form.1)
size_by channels codec indices xs few form size = absurd form

pub size_of_block : (p : Parameters) (indices : Indices) (xs : List ℤ) → AreBlocks p → length xs ≡ block_numbers p → length (block_bytes p.channels p.codec indices xs) ≡ block_align p.channels p.codec
size_of_block p indices xs blocks size = size_by p.channels p.codec indices xs blocks.channels blocks.form size

-- .. where it was made by the one codec or the other
pub ima_block_size : (p : Parameters) (align per_block : ℕ) (indices : Indices) (xs : List ℤ) (bytes : List ℕ) → AreBlocks p → length xs ≡ block_numbers p
    → p.codec ≡ Ima align per_block → bytes ≡ ima_bytes p.channels indices xs → length bytes ≡ block_align p.channels p.codec
unfolding block_bytes
ima_block_size p align per_block indices xs bytes blocks size is made =
    ap length (made ∙ ap (λ (codec : Codec). block_bytes p.channels codec indices xs) (sym is)) ∙ size_of_block p indices xs blocks size

pub ms_block_size : (p : Parameters) (align per_block : ℕ) (indices : Indices) (xs : List ℤ) (bytes : List ℕ) → AreBlocks p → length xs ≡ block_numbers p
    → p.codec ≡ Ms align per_block → bytes ≡ ms_bytes p.channels xs → length bytes ≡ block_align p.channels p.codec
unfolding block_bytes
ms_block_size p align per_block indices xs bytes blocks size is made =
    ap length (made ∙ ap (λ (codec : Codec). block_bytes p.channels codec indices xs) (sym is)) ∙ size_of_block p indices xs blocks size
