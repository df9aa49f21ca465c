-- What a list is once a few entries were put, beside what is still to come.
use Rattle.std.proofs.Common.{◌≡◌, ℕ, ℤ, ◌+◌, ◌≤◌, List, [], ◌∷◌, ◌++◌, length, take, drop, set, refl, sym, ap, ◌∙◌, append_assoc, arith}
use Rattle.std.specs.List.{All, refill}
use Rattle.std.proofs.lemmas.List.Elements.{All-nil, All-cons, All-head, All-tail}
use Rattle.std.proofs.lemmas.List.{length-set, take_all, take_at, append-nil}
use Rattle.std.proofs.lemmas.Grind.{take-set_at}
use Rattle.snd_ima_adpcm.specs.Frames.{alternating}

pub alternating-same : {X : Type 0} (xs ys us vs : List X) → xs ≡ us → ys ≡ vs → alternating xs ys ≡ alternating us vs
alternating-same xs ys us vs p q = rw (p, q)

-- what holds of all entries of two lists holds of those in turn
pub alternating_all : {X : Type 0} (P : X → Type 0) (xs ys : List X) → All P xs → All P ys → All P (alternating xs ys)
alternating_all P [] ys left right = All-nil P
alternating_all P (x ∷ xs) [] left right = All-nil P
alternating_all P (x ∷ xs) (y ∷ ys) left right =
    All-cons P x (y ∷ alternating xs ys) (All-head P x xs left)
    (All-cons P y (alternating xs ys) (All-head P y ys right) (alternating_all P xs ys (All-tail P x xs left) (All-tail P y ys right)))

-- two samples put in their places
pub two_put : (xs whole all rest : List ℤ) (k j m : ℕ) (a b : ℤ) → j ≡ k + 1 → m ≡ j + 1 → m ≤ length xs → all ≡ a ∷ b ∷ rest → take k xs ++ all ≡ whole → take m (set (set xs k a) j b) ++ rest ≡ whole
two_put xs whole all rest k j m a b j_is m_is le all_is h =
    let first : take j (set xs k a) ≡ take k xs ++ a ∷ [] = take-set_at xs k j a j_is (omega arith) in
    let second : take m (set (set xs k a) j b) ≡ take j (set xs k a) ++ b ∷ [] = take-set_at (set xs k a) j m b m_is (omega (arith, length-set xs k a)) in
    rw (second, first) (simp append_assoc (rw all_is at h))

-- the samples of a head
pub one_begins : (xs rest : List ℤ) (a first : ℤ) → 1 ≤ length xs → a ≡ first → take 1 (set xs 0 a) ++ rest ≡ first ∷ rest
one_begins [] rest a first le is = absurd (omega arith)
one_begins (x ∷ xs) rest a first le is = rw is refl

pub two_begin : (xs rest : List ℤ) (a b older newer : ℤ) → 2 ≤ length xs → a ≡ older → b ≡ newer → take 2 (set (set xs 0 a) 1 b) ++ rest ≡ older ∷ newer ∷ rest
two_begin [] rest a b older newer le a_is b_is = absurd (omega arith)
two_begin (x ∷ []) rest a b older newer le a_is b_is = absurd (omega arith)
two_begin (x ∷ y ∷ xs) rest a b older newer le a_is b_is = rw (a_is, b_is) refl

-- at the end nothing is still to come
pub all_put : (xs whole rest : List ℤ) (k : ℕ) → length xs ≤ k → rest ≡ [] → take k xs ++ rest ≡ whole → xs ≡ whole
all_put xs whole rest k le none h = sym (take_all k xs le) ∙ sym (append-nil (take k xs)) ∙ ap (λ ys. take k xs ++ ys) (sym none) ∙ h

-- a slice of the whole list is written over
pub written_over : {X : Type 0} (xs ws : List X) → length ws ≡ length xs → refill (length xs) xs ws ≡ ws
written_over xs ws same = take_at ws (drop (length ws) xs) (length xs) same
