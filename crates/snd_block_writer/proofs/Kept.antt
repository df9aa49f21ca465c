-- The laws of blocks that are written.
use Rattle.std.proofs.Common.{◌≡◌, ◌⊎◌, ◌∙◌, refl, sym, ap, inl, inr, ℕ, ℤ, ◌+◌, ◌-◌, ◌*◌, ◌/◌, ◌%◌, ◌<◌, ◌≤◌, List, All, ◌++◌, length, take, drop, append_assoc, arith}
use Rattle.std.proofs.Math.Nat.{div-add-mod, div-div-eq-div-mul, div-eq_of_lt-le, div-le_of_le-mul, div-mul-le_self, mul-div_left}
use Rattle.std.proofs.lemmas.Nat.{le-div}
use Rattle.std.proofs.lemmas.List.{length-append, length-take-le, places, same_lists, take-take, take_all, take_at}
use Rattle.std.proofs.lemmas.List.Elements.{All-nil}
use Rattle.snd_ima_adpcm.proofs.Public.{ima_data_bytes}
use Rattle.snd_ms_adpcm.proofs.Public.{ms_data_bytes}
use Rattle.snd_ima_adpcm.specs.Blocks.{filled}
use Rattle.snd_ima_adpcm.specs.Frames.{Is16Bit}
use Rattle.snd_disk.specs.Bytes.{over}
use Rattle.snd_fields.specs.Laws.{IsByte}
use Rattle.snd_layout.specs.Blocks.{block_align, block_frames}
use Rattle.snd_layout.specs.declared.codec.Codec.{Codec}
use Rattle.snd_layout.specs.declared.codec.Codec.TheVariants.{Ima, Ms}
use Rattle.snd_layout.specs.Params.{Parameters, data_bytes}
use Rattle.snd_blocks.specs.Calls.{AreBlocks}
use Rattle.snd_blocks.specs.Frames.{blocks_decoded, frames_in_blocks, has_bad}
use Rattle.snd_block_writer.specs.Coded.{block_numbers, blocks_coded, coded, kept, whole, whole_blocks}
use Rattle.snd_block_writer.specs.Laws.{AllAreKept, CodedAreBytes, KeptIsRead, KeptStays, NoneIsBad, WholeFramesAreKept, WholeIsFront}
use Rattle.snd_block_writer.specs.Writing.{given, more_bytes, padding}
use Rattle.snd_block_writer.proofs.Decoded.{count_decoded, decoded_joined, good_blocks, some_channel}
use Rattle.snd_block_writer.proofs.Given.{some_numbers}
use Rattle.snd_block_writer.proofs.Standing.{coded_blocks, coded_more, coded_padded, filled_few, length-coded, length-whole, padded, whole_filled}

pub whole_is_front : WholeIsFront
whole_is_front p xs ys blocks =
    let zeros = padding (given p (xs ++ ys)) in
    let all : xs ++ (ys ++ zeros) ≡ filled (block_numbers p) (xs ++ ys) = sym (append_assoc xs ys zeros) ∙ padded p blocks (given p (xs ++ ys)) (xs ++ ys) refl in (
      more_bytes (given p xs) (ys ++ zeros),
      sym (coded_padded p blocks (xs ++ ys)) ∙ ap (λ (l : List ℤ). coded p (whole p l)) (sym all) ∙ sym (coded_more p blocks (given p xs) (ys ++ zeros) xs refl),
    )

-- the filled list is so many blocks
blocks_of_filled : (p : Parameters) (xs : List ℤ) → AreBlocks p → length (filled (block_numbers p) xs) / block_numbers p * block_numbers p ≡ length (filled (block_numbers p) xs)
blocks_of_filled p xs blocks =
    let n = block_numbers p in
    omega (arith, div-add-mod (length (filled n xs)) n, whole_filled n xs (some_numbers p blocks))

pub none_is_bad : NoneIsBad
none_is_bad p xs blocks =
    let all = filled (block_numbers p) xs in
    let count = length all / block_numbers p in
    ap (λ (l : List ℕ). has_bad (blocks_decoded p l)) (coded_blocks p blocks xs)
    ∙ good_blocks p blocks count (0, 0) all (div-mul-le_self (length all) (block_numbers p)) (record { left = omega arith; right = omega arith })

pub all_are_kept : AllAreKept
all_are_kept p xs blocks =
    let n = block_numbers p in
    let count = length (filled n xs) / n in
    let few = filled_few n xs (some_numbers p blocks) in
    let frames = count_decoded p blocks count (coded p xs) (length-coded p blocks xs) in
    let product : p.channels * (count * block_frames p.codec) ≡ count * n = omega arith in
    let least : length xs / p.channels ≤ count * block_frames p.codec = div-le_of_le-mul p.channels (omega (arith, blocks_of_filled p xs blocks, few.0, product)) in
    length-take-le (length xs / p.channels) (blocks_decoded p (coded p xs)) (omega (arith, least, frames))

-- the frames of whole blocks
frames_of_whole : (p : Parameters) (xs : List ℤ) → AreBlocks p → length (whole p xs) / p.channels ≡ whole_blocks p xs * block_frames p.codec
frames_of_whole p xs blocks =
    let channels : 0 < p.channels = let h = some_channel p.channels blocks.channels in omega (arith, h) in
    let product : whole_blocks p xs * block_numbers p ≡ whole_blocks p xs * block_frames p.codec * p.channels = omega arith in
    ap (λ (m : ℕ). m / p.channels) ((length-whole p blocks xs).0 ∙ product) ∙ mul-div_left (whole_blocks p xs * block_frames p.codec) channels

pub whole_frames_are_kept : WholeFramesAreKept
whole_frames_are_kept p xs blocks =
    all_are_kept p (whole p xs) blocks
    ∙ frames_of_whole p xs blocks
    ∙ ap (λ (m : ℕ). m * block_frames p.codec) (sym (div-div-eq-div-mul (length xs) p.channels (block_frames p.codec)))

pub kept_stays : KeptStays
kept_stays p xs ys blocks =
    let n = block_numbers p in
    let per = block_frames p.codec in
    let count = whole_blocks p xs in
    let sizes = length-whole p blocks xs in
    let channels : 0 < p.channels = let h = some_channel p.channels blocks.channels in omega (arith, h) in
    let product : count * n ≡ count * per * p.channels = omega arith in
    let frames : length (whole p xs) / p.channels ≡ count * per = frames_of_whole p xs blocks in
    let first = blocks_decoded p (coded p (whole p xs)) in
    let size : length first ≡ count * per = count_decoded p blocks count (coded p (whole p xs)) sizes.1 in
    let front = whole_is_front p xs ys blocks in
    let rest = blocks_decoded p front.0 in
    let both : blocks_decoded p (coded p (xs ++ ys)) ≡ first ++ rest = ap (blocks_decoded p) front.1 ∙ decoded_joined p blocks count (coded p (whole p xs)) front.0 sizes.1 in
    let fits : count * per * p.channels ≤ length (xs ++ ys) = omega (arith, product, div-mul-le_self (length xs) n, length-append xs ys) in
    let within : count * per ≤ length (xs ++ ys) / p.channels = le-div (count * per) (length (xs ++ ys)) p.channels channels fits in
    let front_of : take (length (whole p xs) / p.channels) (kept p (xs ++ ys)) ≡ first =
    ap (λ (m : ℕ). take m (kept p (xs ++ ys))) frames
    ∙ take-take (count * per) (length (xs ++ ys) / p.channels) (blocks_decoded p (coded p (xs ++ ys))) within
    ∙ ap (take (count * per)) both
    ∙ take_at first rest (count * per) size in
    take_all (length (whole p xs) / p.channels) first (omega (arith, frames, size)) ∙ sym front_of

-- ---- as a reader finds them

-- the blocks of so many frames are those of their numbers
same_count : (channels per frames length_xs n count length_all : ℕ) → (channels ≡ 1) ⊎ (channels ≡ 2) → 1 ≤ per → n ≡ channels * per → length_xs ≡ frames * channels → count * n ≡ length_all → length_xs ≤ length_all
    → length_all < length_xs + n → (frames + per - 1) / per ≡ count
same_count channels per frames length_xs n count length_all few some n_is size whole_is least most =
    let m : count * n ≡ count * (channels * per) = ap (λ (k : ℕ). count * k) n_is in
    div-eq_of_lt-le per (low few m) (high few m)
  where
    low : (channels ≡ 1) ⊎ (channels ≡ 2) → count * n ≡ count * (channels * per) → count * per ≤ frames + per - 1
    low (inl one) m =
        let product : count * (channels * per) ≡ count * per = ap (λ (k : ℕ). count * (k * per)) one ∙ (let e : count * (1 * per) ≡ count * per = omega arith in e) in
        let block : channels * per ≡ per = ap (λ (k : ℕ). k * per) one ∙ (let e : 1 * per ≡ per = omega arith in e) in
        let all : frames * channels ≡ frames = ap (λ (k : ℕ). frames * k) one ∙ (let e : frames * 1 ≡ frames = omega arith in e) in
        omega (arith, m, product, block, all, n_is, size, whole_is, most, some)
    low (inr two) m =
        let product : count * (channels * per) ≡ 2 * (count * per) = ap (λ (k : ℕ). count * (k * per)) two ∙ (let e : count * (2 * per) ≡ 2 * (count * per) = omega arith in e) in
        let block : channels * per ≡ 2 * per = ap (λ (k : ℕ). k * per) two in
        let all : frames * channels ≡ 2 * frames = ap (λ (k : ℕ). frames * k) two ∙ (let e : frames * 2 ≡ 2 * frames = omega arith in e) in
        omega (arith, m, product, block, all, n_is, size, whole_is, most, some)

    high : (channels ≡ 1) ⊎ (channels ≡ 2) → count * n ≡ count * (channels * per) → frames + per - 1 < (count + 1) * per
    high (inl one) m =
        let product : count * (channels * per) ≡ count * per = ap (λ (k : ℕ). count * (k * per)) one ∙ (let e : count * (1 * per) ≡ count * per = omega arith in e) in
        let all : frames * channels ≡ frames = ap (λ (k : ℕ). frames * k) one ∙ (let e : frames * 1 ≡ frames = omega arith in e) in
        let more : (count + 1) * per ≡ count * per + per = omega arith in
        omega (arith, m, product, all, size, whole_is, least, some, more)
    high (inr two) m =
        let product : count * (channels * per) ≡ 2 * (count * per) = ap (λ (k : ℕ). count * (k * per)) two ∙ (let e : count * (2 * per) ≡ 2 * (count * per) = omega arith in e) in
        let all : frames * channels ≡ 2 * frames = ap (λ (k : ℕ). frames * k) two ∙ (let e : frames * 2 ≡ 2 * frames = omega arith in e) in
        let more : (count + 1) * per ≡ count * per + per = omega arith in
        omega (arith, m, product, all, size, whole_is, least, some, more)

behind : (b : List ℕ) (at : ℕ) (l : List ℕ) → drop at (over b at l) ≡ l ++ drop (at + length l) b
behind b at l = same_lists _ _ (grind (arith, places)) (λ k d lt. grind (arith, places))

-- the blocks of numbers of whole frames have the bytes of the data of these
pub coded_size : (p : Parameters) → AreBlocks p → (xs : List ℤ) → length xs % p.channels ≡ 0 → length (coded p xs) ≡ data_bytes p (length xs / p.channels)
coded_size p blocks xs even =
    let n = block_numbers p in
    let frames = length xs / p.channels in
    let few = filled_few n xs (some_numbers p blocks) in
    let exact : length xs ≡ frames * p.channels = let h = div-add-mod (length xs) p.channels in omega (arith, h, even) in
    let count : (frames + block_frames p.codec - 1) / block_frames p.codec ≡ length (filled n xs) / n =
    same_count p.channels (block_frames p.codec) frames (length xs) n (length (filled n xs) / n) (length (filled n xs)) blocks.channels blocks.some_frames refl exact (blocks_of_filled p xs blocks) few.0 few.1 in
    length-coded p blocks xs ∙ ap (λ (m : ℕ). m * block_align p.channels p.codec) (sym count)

pub kept_is_read : KeptIsRead
unfolding frames_in_blocks
kept_is_read b s xs blocks even counted =
    let p = s.params in
    let l = coded p xs in
    let frames = length xs / p.channels in
    ap (λ (m : ℕ). take m (blocks_decoded p (take (data_bytes p m) (drop s.start (over b s.start l))))) counted
    ∙ ap (λ (x : List ℕ). take frames (blocks_decoded p (take (data_bytes p frames) x))) (behind b s.start l)
    ∙ ap (λ (x : List ℕ). take frames (blocks_decoded p x)) (take_at l (drop (s.start + length l) b) (data_bytes p frames) (coded_size p blocks xs even))

bytes_coded : (channels : ℕ) (codec : Codec) (xs : List ℤ) → All Is16Bit xs → All IsByte (blocks_coded channels codec xs)
unfolding blocks_coded
bytes_coded channels (Ima align per_block) xs range = ima_data_bytes channels align xs range
bytes_coded channels (Ms align per_block) xs range = ms_data_bytes channels align xs range
bytes_coded channels _ xs range = All-nil IsByte

pub coded_are_bytes : CodedAreBytes
coded_are_bytes p xs range = bytes_coded p.channels p.codec xs range
