-- Frames that are summed up, some after others; and what all frames of some numbers come to.
use Rattle.std.proofs.Common.{◌≡◌, ◌∙◌, ap, sym, subst, refl, ℕ, suc, ◌+◌, ◌*◌, ◌/◌, ◌<◌, ◌≤◌, ◌^◌, ℤ, pos, negsuc, List, ◌++◌, length, take, drop, arith}
use Rattle.std.proofs.Math.Nat.{mul-div_cancel_left}
use Rattle.std.proofs.lemmas.Int.{ints}
use Rattle.std.proofs.lemmas.List.{length-take-le, places, same_lists, take_all}
use Rattle.std.proofs.lemmas.List.Elements.{All-weaker}
use Rattle.std.proofs.lemmas.List.Sums.{fold-append, sum_by-le}
use Rattle.snd_output.proofs.Public.{joined_groups}
use Rattle.snd_pcm.proofs.Series.{length-first_groups}
use Rattle.snd_pcm.specs.Groups.{first_groups, groups}
use Rattle.snd_pcm.specs.Width.{HasWidth}
use Rattle.snd_taps.proofs.Totals.{energy_of_all, peak_of_all}
use Rattle.snd_taps.specs.Laws.{all_of}
use Rattle.snd_taps.specs.Measure.{energy_of, peak_of, square}
use Rattle.snd_taps.specs.Meter.{Meter, after_frames, capped, fed, step}
use Rattle.snd_taps.specs.declared.tap.TapKind.TheVariants.{Energy, Peak}
use Rattle.snd_edits.proofs.Public.{groups_of_front}
use Rattle.snd_edits.specs.Editing.{Editing, frames_read, moved_by}
use Rattle.snd_generate.specs.declared.generating.Summary.{Summary}
use Rattle.snd_generate.specs.Edited.{summary_of}
use Rattle.snd_generate.specs.Generating.{AreNumbers}
use Rattle.snd_generate.specs.Steps.{summed}

fed_twice : (a b : List (List ℤ)) (m : Meter) → after_frames b (after_frames a m) ≡ after_frames (a ++ b) m
fed_twice a b m = ap (λ s. record m { state = s }) (sym (fold-append (step m.kind m.low m.high) m.state a b))

taken_on : {X : Type 0} (xs : List X) (j k : ℕ) → take j xs ++ take k (drop j xs) ≡ take (j + k) xs
taken_on xs j k = same_lists _ _ (grind (arith, places)) (λ i d lt. grind (arith, places))

-- the next frames behind those that were fed
pub fed_on : (e : Editing) (j k i : ℕ) (first old new : Meter) → e.place ≡ 0 → i ≡ j + k → old ≡ after_frames (take j e.frames) first → new ≡ after_frames (frames_read (moved_by j e) k) old → new ≡ after_frames (take i e.frames) first
fed_on e j k i first old new begins sum before next =
    let more = take k (drop (e.place + j) e.frames) in
    let here : take j e.frames ++ more ≡ take i e.frames =
    ap (λ (n : ℕ). take j e.frames ++ take k (drop n e.frames)) (let s : e.place + j ≡ j = omega (arith, begins) in s) ∙ taken_on e.frames j k ∙ ap (λ (n : ℕ). take n e.frames) (sym sum) in
    next ∙ ap (after_frames more) before ∙ fed_twice (take j e.frames) more first ∙ ap (λ l. after_frames l first) here

-- the frames of a block that is filled in front
pub front_groups : (c k : ℕ) (xs : List ℤ) → 1 ≤ c → k * c ≤ length xs → groups c (take (k * c) xs) ≡ first_groups c k xs
front_groups c k xs some fits =
    let turned : k * c ≡ c * k = omega arith in
    let count : length (take (k * c) xs) / c ≡ k = ap (λ (n : ℕ). n / c) (length-take-le (k * c) xs fits ∙ turned) ∙ mul-div_cancel_left k (let e : 0 < c = omega (arith, some) in e) in
    ap (λ (n : ℕ). first_groups c n (take (k * c) xs)) count ∙ ap (λ (n : ℕ). first_groups c k (take n xs)) turned ∙ groups_of_front c k xs

-- ---- all frames of numbers

small_product : (m : ℕ) → m ≤ 32768 → m * m ≤ 1073741824
small_product m few = grind (arith, few)

small_square : (x : ℤ) → HasWidth 16 x → square x ≤ 1073741824
small_square (pos n) fits = small_product n (omega (arith, ints, fits.1))
small_square (negsuc n) fits = small_product (suc n) (omega (arith, ints, fits.0))

few_squares : (n : ℕ) (xs : List ℤ) → AreNumbers n xs → energy_of xs < 2 ^ 128
few_squares n xs are =
    let most = sum_by-le square 1073741824 xs (All-weaker (HasWidth 16) (λ x. square x ≤ 1073741824) small_square xs are.in_range) in
    omega (arith, most, are.count, are.most)

pub sum_of_numbers : (n : ℕ) (xs : List ℤ) → AreNumbers n xs → summed (groups 2 xs) ≡ summary_of xs
sum_of_numbers n xs are =
    let frames = groups 2 xs in
    let all : all_of frames ≡ xs = joined_groups 2 (length xs / 2) xs ∙ take_all (length xs / 2 * 2) xs (omega (arith, are.count)) in
    let count : length frames ≡ length xs / 2 = length-first_groups 2 (length xs / 2) xs in
    let peak : (fed Peak (pos 0) (pos 0) frames).value ≡ peak_of xs = peak_of_all (pos 0) (pos 0) frames ∙ ap peak_of all in
    let few = few_squares n xs are in
    let energy : (fed Energy (pos 0) (pos 0) frames).value ≡ energy_of xs = energy_of_all (pos 0) (pos 0) frames ∙ ap (λ l. capped 128 (energy_of l)) all ∙ omega (arith, few) in
    let made = λ (f p g : ℕ). ◌≡◌ {A = Summary} (summed frames) (record { frames = f; peak = p; energy = g }) in
    subst (λ (f : ℕ). made f (peak_of xs) (energy_of xs)) count (subst (λ (p : ℕ). made (length frames) p (energy_of xs)) peak (subst (λ (g : ℕ). made (length frames) (fed Peak (pos 0) (pos 0) frames).value g) energy refl))
