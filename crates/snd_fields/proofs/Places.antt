-- What stands after a write at a place of a slice.
use Rattle.std.proofs.Common.{◌≡◌, ℕ, ◌+◌, ◌-◌, ◌≤◌, List, ◌++◌, length, take, drop, ap, ◌∙◌, arith}
use Rattle.std.proofs.lemmas.List.{places, same_lists}
use borrow.Rule.Slice.PartMut.{put_mid}
use Rattle.snd_fields.specs.Field.{with_field}

-- bytes at the front of the part of b that begins at a place
pub put_field : (b : List ℕ) (at : ℕ) (bytes new : List ℕ) → at + length bytes ≤ length b
    → new ≡ bytes ++ drop (length bytes) (take (length b - at) (drop at b))
    → put_mid at (length b - at) b new ≡ with_field b at bytes
put_field b at bytes new fits written =
    let whole : put_mid at (length b - at) b (bytes ++ drop (length bytes) (take (length b - at) (drop at b))) ≡ with_field b at bytes =
    same_lists _ _ (grind (arith, places)) (λ k d lt. grind (arith, places)) in
    ap (λ l. put_mid at (length b - at) b l) written ∙ whole
