-- A loop that changes each element of a list.
use Rattle.std.proofs.Common.{◌≡◌, ℕ, ◌+◌, ◌<◌, ◌≤◌, List, [], ◌∷◌, ◌++◌, length, take, drop, map, get_or, set, refl, sym, ◌∙◌, ap, arith, add-zero}
use Rattle.std.proofs.lemmas.List.{take_all, take_more, take_more_set, map-append, drop-drop, drop-set-lt, get_or-drop}

module _ {A : Type 0} (items old : List A) (i : ℕ) (x y : A) (lt : i < length items) (same : length items ≡ length old) (is : x ≡ get_or items i x) (rest : drop i items ≡ drop i old) where
  pub is_old : x ≡ get_or old i x
  is_old = is ∙ ap (λ k. get_or items k x) (sym (add-zero i)) ∙ sym (get_or-drop i items 0 x) ∙ ap (λ l. get_or l 0 x) rest ∙ get_or-drop i old 0 x ∙ ap (λ k. get_or old k x) (add-zero i)

  pub rest_more : drop (i + 1) (set items i y) ≡ drop (i + 1) old
  rest_more = drop-set-lt (i + 1) items i y (omega arith) ∙ sym (drop-drop 1 i items) ∙ ap (drop 1) rest ∙ drop-drop 1 i old

  pub each_more : {B : Type 0} (m F : A → B) → map m (take i items) ≡ map F (take i old) → m y ≡ F x → map m (take (i + 1) (set items i y)) ≡ map F (take (i + 1) old)
  each_more m F so_far here =
      ap (map m) (take_more_set items i y lt) ∙ map-append m (take i items) (y ∷ []) ∙ ap (λ l. l ++ m y ∷ []) so_far ∙ ap (λ v. map F (take i old) ++ v ∷ []) (here ∙ ap F is_old)
      ∙ sym (ap (map F) (take_more old i x (omega arith)) ∙ map-append F (take i old) (get_or old i x ∷ []))

pub map-map : {A B C : Type 0} (f : B → C) (g : A → B) (xs : List A) → map f (map g xs) ≡ map (λ x. f (g x)) xs
map-map f g [] = refl
map-map f g (x ∷ xs) = ap (λ l. f (g x) ∷ l) (map-map f g xs)

-- where the loop has come to the end
pub all_changed : {A B : Type 0} (m : A → B) (f : B → B) (items old : List A) (i : ℕ) → length items ≤ i → length items ≡ length old
    → map m (take i items) ≡ map (λ x. f (m x)) (take i old) → map m items ≡ map f (map m old)
all_changed m f items old i le same so_far =
    ap (map m) (sym (take_all i items le)) ∙ so_far ∙ ap (map (λ x. f (m x))) (take_all i old (omega (arith, same, le))) ∙ sym (map-map f m old)
