-- Bytes put behind others, and into the head of a list.
use Rattle.std.proofs.Common.{◌≡◌, ◌∙◌, ap, sym, ℕ, ◌+◌, ◌≤◌, List, [], ◌++◌, length, drop, arith}
use Rattle.std.proofs.lemmas.List.{append-nil, append_assoc, length-append, places, same_lists}
use Rattle.snd_disk.specs.Bytes.{over}

pub over_behind : (a r s : List ℕ) (at : ℕ) → at ≡ length a → over (a ++ r) at s ≡ a ++ s ++ drop (length s) r
over_behind a r s at is = same_lists _ _ (grind (arith, places)) (λ k d lt. grind (arith, places))

pub over_in_front : (f t s : List ℕ) (at : ℕ) → at + length s ≤ length f → over (f ++ t) at s ≡ over f at s ++ t
over_in_front f t s at within = same_lists _ _ (grind (arith, places)) (λ k d lt. grind (arith, places))

pub dropped_twice : (r : List ℕ) (m n : ℕ) → length r ≤ m + n → drop n (drop m r) ≡ []
dropped_twice r m n all = same_lists _ _ (grind (arith, places)) (λ k d lt. absurd (grind (arith, places)))

-- bytes put behind others, and then what closes them, over all that stood there
pub put_and_closed : (f x r y z : List ℕ) (at at' : ℕ) → at ≡ length (f ++ x) → at' ≡ at + length y → length r ≤ length y + length z → over (over (f ++ x ++ r) at y) at' z ≡ f ++ (x ++ y) ++ z
put_and_closed f x r y z at at' is next few =
    let a = f ++ x in
    ap (λ (l : List ℕ). over l at' z) (over_behind a r y at is)
    ∙ over_behind (a ++ y) (drop (length y) r) z at' (omega (arith, is, next, length-append a y))
    ∙ ap (λ (l : List ℕ). a ++ y ++ z ++ l) (dropped_twice r (length y) (length z) few)
    ∙ append-nil (a ++ y ++ z)
    ∙ ap (λ (l : List ℕ). l ++ z) (append_assoc f x y)

-- none put
pub nothing_put : (f x r y : List ℕ) (at : ℕ) → at ≡ length (f ++ x) → y ≡ [] → over (f ++ x ++ r) at y ≡ f ++ (x ++ y) ++ r
nothing_put f x r y at is none =
    ap (over (f ++ x ++ r) at) none ∙ over_behind (f ++ x) r [] at is
    ∙ ap (λ (l : List ℕ). l ++ r) (append-nil (f ++ x)) ∙ ap (λ (l : List ℕ). f ++ l ++ r) (sym (append-nil x)) ∙ ap (λ (l : List ℕ). f ++ (x ++ l) ++ r) (sym none)
