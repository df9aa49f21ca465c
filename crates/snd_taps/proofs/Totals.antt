-- What all frames measure at once.
use Rattle.std.proofs.Common.{◌≡◌, ℕ, ℤ, ◌+◌, ◌≤◌, max, nat_abs, List, [], ◌∷◌, ◌++◌, length, ◌∙◌, arith}
use Rattle.std.specs.Prelude.{fold}
use Rattle.std.proofs.lemmas.List.Sums.{sum_by-append, fold-append}
use Rattle.snd_taps.specs.declared.tap.TapKind.{TapKind}
use Rattle.snd_taps.specs.declared.tap.TapKind.TheVariants.{Peak, Clips, Energy}
use Rattle.snd_taps.specs.declared.tap.TapState.{TapState}
use Rattle.snd_taps.specs.Laws.{all_of}
use Rattle.snd_taps.specs.Measure.{square, peak_of, clips_of, energy_of}
use Rattle.snd_taps.specs.Meter.{capped, step, nothing, fed, fed_from}

count_from : (kind : TapKind) (low high : ℤ) (frames : List (List ℤ)) (s : TapState) → s.frames ≤ 18446744073709551615
    → (fed_from kind low high s frames).frames ≡ capped 64 (s.frames + length frames)
count_from kind low high [] s le = omega (arith, le)
count_from kind low high (frame ∷ frames) s le =
    count_from kind low high frames (step kind low high s frame) (omega (arith, le)) ∙ omega (arith, le)

pub count_of_frames : (kind : TapKind) (low high : ℤ) (frames : List (List ℤ)) → (fed kind low high frames).frames ≡ capped 64 (length frames)
count_of_frames kind low high frames = count_from kind low high frames nothing (omega arith) ∙ omega arith

-- the greatest magnitude of a list behind a value
peak_from : (value : ℕ) (xs : List ℤ) → fold (λ most x. max most (nat_abs x)) value xs ≡ max value (peak_of xs)
peak_from value [] = omega arith
peak_from value (x ∷ xs) =
    let here = peak_from (max value (nat_abs x)) xs in
    let alone = peak_from (max 0 (nat_abs x)) xs in
    here ∙ omega (arith, alone)

peak_of_both : (xs ys : List ℤ) → peak_of (xs ++ ys) ≡ max (peak_of xs) (peak_of ys)
peak_of_both xs ys = fold-append (λ most x. max most (nat_abs x)) 0 xs ys ∙ peak_from (peak_of xs) ys

peaks_from : (low high : ℤ) (frames : List (List ℤ)) (s : TapState) → (fed_from Peak low high s frames).value ≡ max s.value (peak_of (all_of frames))
peaks_from low high [] s = omega arith
peaks_from low high (frame ∷ frames) s =
    peaks_from low high frames (step Peak low high s frame) ∙ omega (arith, peak_of_both frame (all_of frames))

pub peak_of_all : (low high : ℤ) (frames : List (List ℤ)) → (fed Peak low high frames).value ≡ peak_of (all_of frames)
peak_of_all low high frames = peaks_from low high frames nothing ∙ omega arith

clips_from : (low high : ℤ) (frames : List (List ℤ)) (s : TapState) → s.value ≤ 340282366920938463463374607431768211455
    → (fed_from Clips low high s frames).value ≡ capped 128 (s.value + clips_of low high (all_of frames))
clips_from low high [] s le = omega (arith, le)
clips_from low high (frame ∷ frames) s le =
    let both : clips_of low high (frame ++ all_of frames) ≡ clips_of low high frame + clips_of low high (all_of frames) = sum_by-append _ frame (all_of frames) in
    clips_from low high frames (step Clips low high s frame) (omega (arith, le)) ∙ omega (arith, le, both)

pub clips_of_all : (low high : ℤ) (frames : List (List ℤ)) → (fed Clips low high frames).value ≡ capped 128 (clips_of low high (all_of frames))
clips_of_all low high frames = clips_from low high frames nothing (omega arith) ∙ omega arith

energy_from : (low high : ℤ) (frames : List (List ℤ)) (s : TapState) → s.value ≤ 340282366920938463463374607431768211455
    → (fed_from Energy low high s frames).value ≡ capped 128 (s.value + energy_of (all_of frames))
energy_from low high [] s le = omega (arith, le)
energy_from low high (frame ∷ frames) s le =
    let both : energy_of (frame ++ all_of frames) ≡ energy_of frame + energy_of (all_of frames) = sum_by-append square frame (all_of frames) in
    energy_from low high frames (step Energy low high s frame) (omega (arith, le)) ∙ omega (arith, le, both)

pub energy_of_all : (low high : ℤ) (frames : List (List ℤ)) → (fed Energy low high frames).value ≡ capped 128 (energy_of (all_of frames))
energy_of_all low high frames = energy_from low high frames nothing (omega arith) ∙ omega arith
