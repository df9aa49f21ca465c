-- Bytes put over others.
use Rattle.std.proofs.Common.{◌≡◌, ◌∙◌, ap, inl, inr, ⊎_elim, ℕ, ◌+◌, ◌≤◌, List, ◌++◌, length, take, drop, arith}
use Rattle.std.proofs.lemmas.List.{places, same_lists}
use Rattle.snd_disk.proofs.Public.{length-over}
use Rattle.snd_disk.specs.Bytes.{over}
use Rattle.snd_disk.specs.Runs.{AreApart}

over_again : (b v w : List ℕ) (at : ℕ) → length v ≡ length w → over (over b at v) at w ≡ over b at w
over_again b v w at same = same_lists _ _ (grind (arith, places)) (λ k d lt. grind (arith, places))

over_swapped : (b v w : List ℕ) (at at' : ℕ) → AreApart at (length v) at' (length w) → at + length v ≤ length b → at' + length w ≤ length b
    → over (over b at' w) at v ≡ over (over b at v) at' w
over_swapped b v w at at' (inl before) fits fits' = same_lists _ _ (grind (arith, places)) (λ k d lt. grind (arith, places))
over_swapped b v w at at' (inr behind) fits fits' = same_lists _ _ (grind (arith, places)) (λ k d lt. grind (arith, places))

-- two that lie apart, put over others of their lengths
pub both_again : (b v w v' w' : List ℕ) (at at' : ℕ) → AreApart at (length v) at' (length w) → length v ≡ length v' → length w ≡ length w' → at + length v ≤ length b → at' + length w ≤ length b
    → over (over (over (over b at v) at' w) at v') at' w' ≡ over (over b at v') at' w'
both_again b v w v' w' at at' apart same same' fits fits' =
    let first = over b at v in
    let long : length first ≡ length b = omega (arith, length-over b at v, fits) in
    let apart' : AreApart at (length v') at' (length w) = ⊎_elim (λ (le : at + length v ≤ at'). inl (omega (arith, le, same))) (λ (le : at' + length w ≤ at). inr le) apart in
    ap (λ (l : List ℕ). over l at' w') (over_swapped first v' w at at' apart' (omega (arith, long, fits, same)) (omega (arith, long, fits')))
    ∙ over_again (over first at v') w w' at' same'
    ∙ ap (λ (l : List ℕ). over l at' w') (over_again b v v' at same)

-- bytes put over as many in the midst of others
pub put_amid : (f x y z r w : List ℕ) (at : ℕ) → at ≡ length f + length x → length w ≡ length y → over (f ++ (x ++ y ++ z) ++ r) at w ≡ f ++ (x ++ w ++ z) ++ r
put_amid f x y z r w at is same = same_lists _ _ (grind (arith, places)) (λ k d lt. grind (arith, places))

-- bytes put behind a front of others, and all cut off behind them
pub put_and_cut : (f x y r z : List ℕ) (at n : ℕ) → at ≡ length f + length x → n ≡ at + length z → take n (over (f ++ (x ++ y) ++ r) at z) ≡ f ++ x ++ z
put_and_cut f x y r z at n is ends = same_lists _ _ (grind (arith, places)) (λ k d lt. grind (arith, places))

-- a list of which some items in the midst are others
pub amid : {X : Type 0} (xs new : List X) (at : ℕ) → at + length new ≤ length xs
    → (xs ≡ take at xs ++ take (length new) (drop at xs) ++ drop (at + length new) xs) × (length (take (length new) (drop at xs)) ≡ length new)
amid xs new at within = (same_lists _ _ (grind (arith, places)) (λ k d lt. grind (arith, places)), grind (arith, places))
