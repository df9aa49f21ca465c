-- Lists of bytes.
use Rattle.std.proofs.Common.{◌≡◌, ℕ, ◌+◌, ◌-◌, List, ◌++◌, length, take, drop, replicate, max, arith}
use Rattle.std.proofs.lemmas.List.{places, same_lists}
use Rattle.snd_disk.specs.Bytes.{over}

pub length-over : (b : List ℕ) (at : ℕ) (s : List ℕ) → length (over b at s) ≡ max (length b) (at + length s)
length-over b at s = grind (arith, places)

-- bytes put within others that zeros have made long enough
pub over_lengthened : (b c d s : List ℕ) (at n : ℕ) → c ≡ b ++ replicate (at + length s - length b) 0 → d ≡ take at c ++ s ++ drop (at + length s) c → n ≡ length c → take n (d ++ drop (length d) c) ≡ over b at s
over_lengthened b c d s at n longer put len = rw (len, put, longer) (same_lists _ _ (grind (arith, places)) (λ k d lt. grind (arith, places)))
