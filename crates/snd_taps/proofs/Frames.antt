-- The frames of a slice, fed in turn.
use Rattle.std.proofs.Common.{◌≡◌, ℕ, ℤ, suc, ◌+◌, ◌*◌, ◌/◌, ◌<◌, List, ◌∷◌, ◌++◌, length, drop, sym, ◌∙◌, ap, arith}
use Rattle.std.proofs.Math.Nat.{div-eq_of_lt, mul-add-div}
use Rattle.std.proofs.lemmas.List.{length-append, take_at, drop_at}
use Rattle.snd_pcm.specs.Groups.{first_groups, groups}
use Rattle.snd_taps.specs.Meter.{Meter, after_frame, after_frames}

groups-cons : {X : Type 0} (k : ℕ) (piece rest : List X) → 0 < k → length piece ≡ k → groups k (piece ++ rest) ≡ piece ∷ groups k rest
groups-cons k piece rest some len =
    let more : (k * 1 + length rest) / k ≡ 1 + length rest / k = mul-add-div some 1 (length rest) in
    let count : length (piece ++ rest) / k ≡ suc (length rest / k) =
    ap (λ n. n / k) (let e : length (piece ++ rest) ≡ k * 1 + length rest = omega (arith, length-append piece rest) in e) ∙ more ∙ (let e : 1 + length rest / k ≡ suc (length rest / k) = omega arith in e) in
    ap (λ n. first_groups k n (piece ++ rest)) count ∙ ap (λ l. l ∷ first_groups k (length rest / k) (drop k (piece ++ rest))) (take_at piece rest k len)
    ∙ ap (λ l. piece ∷ first_groups k (length rest / k) l) (drop_at piece rest k len)

-- what is left to be fed comes to the same after one more frame
pub one_fed : (m m' all : Meter) (k : ℕ) (frame rest whole : List ℤ) → 0 < k → length frame ≡ k → whole ≡ frame ++ rest → m' ≡ after_frame frame m
    → after_frames (groups k whole) m ≡ all → after_frames (groups k rest) m' ≡ all
one_fed m m' all k frame rest whole some len is step left =
    ap (after_frames (groups k rest)) step ∙ sym (ap (λ frames. after_frames frames m) (groups-cons k frame rest some len))
    ∙ sym (ap (λ l. after_frames (groups k l) m) is) ∙ left

-- what is left fills no frame
pub none_whole : (m all : Meter) (k : ℕ) (rest : List ℤ) → length rest < k → after_frames (groups k rest) m ≡ all → m ≡ all
none_whole m all k rest lt left = sym (ap (λ n. after_frames (first_groups k n rest) m) (div-eq_of_lt lt)) ∙ left
