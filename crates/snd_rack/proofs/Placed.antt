-- Places that are picked, and boxes at their places.
use Rattle.std.proofs.Common.{inl, inr, ◌≡◌, ℕ, zero, suc, ◌+◌, ◌-◌, ◌<◌, ◌≤◌, Bool, true, false, cond, ◌&&◌, List, [], ◌∷◌, ◌++◌, Some, get_or, set, ℤ, slice_get, length, map, drop, take, nat_le, refl, sym, ap, ◌∙◌, arith}
use Rattle.std.specs.List.{list_all}
use Rattle.std.proofs.lemmas.Bool.{and_left, and_right, cases_Bool, le-leb, leb-false, leb-true, lt-leb}
use Rattle.std.proofs.lemmas.List.Sums.{sum_by-append, sum_by-cons}
use Rattle.std.proofs.lemmas.List.{append_assoc, drop-drop, drop-map, drop-take, drop_at, length-append, length-drop, length-take-le, map-append, take-append-drop, take-take, take_all, take_at, take_more_set}
use Rattle.std.specs.List.{take-map}
use Rattle.snd_rack.specs.Boxes.{Finds, brought, count_of, is_kind, suffice}
use Rattle.snd_rack.specs.Rack.{bad_place, channels_behind, is_bad}
use Rattle.std.proofs.lemmas.Option.{slice_get-map, slice_get_read}
use Rattle.std.specs.Option.{option_map}
use Rattle.snd_rack.specs.Held.{Held, started}
use Rattle.snd_rack.specs.Passing.{held_as}
use Rattle.snd_rack.specs.Stage.{Stated, kind_of}
use Rattle.snd_rack.specs.declared.setting.StageKind.{StageKind}
use Rattle.snd_rack.specs.declared.setting.StageKind.TheVariants.{Gain, Invert, Pick, Fade}
use Rattle.snd_rack.proofs.Listed.{drop_get}

pub bad_now : (items : List Stated) (at : ℕ) (s : Stated) (c : ℕ) → slice_get items at ≡ Some s → is_bad c s ≡ true → bad_place (drop at items) c ≡ true
bad_now items at s c there bad = ap (λ l. bad_place l c) (drop_get items at s there) ∙ rw bad refl

pub bad_later : (items : List Stated) (at : ℕ) (s : Stated) (c : ℕ) → slice_get items at ≡ Some s → is_bad c s ≡ false → bad_place (drop at items) c ≡ bad_place (drop (at + 1) items) (channels_behind c s)
bad_later items at s c there good = ap (λ l. bad_place l c) (drop_get items at s there) ∙ rw good refl

-- ---- boxes

pub is_itself : (kind : StageKind) → is_kind kind kind ≡ true
is_itself Gain = refl
is_itself Invert = refl
is_itself Pick = refl
is_itself Fade = refl

-- so many of a list as of its parts
pub count_joined : (kind : StageKind) (xs ys : List StageKind) → count_of kind (xs ++ ys) ≡ count_of kind xs + count_of kind ys
count_joined kind xs ys = sum_by-append (λ x. cond (is_kind kind x) 1 0) xs ys

pub count_first : (kind x : StageKind) (xs : List StageKind) → count_of kind (x ∷ xs) ≡ cond (is_kind kind x) 1 0 + count_of kind xs
count_first kind x xs = sum_by-cons (λ x. cond (is_kind kind x) 1 0) x xs

same_all : {X : Type 0} (f g : X → Bool) → ((x : X) → f x ≡ g x) → (xs : List X) → list_all f xs ≡ list_all g xs
same_all f g h [] = refl
same_all f g h (x ∷ xs) = ap (λ b. b && list_all f xs) (h x) ∙ ap (λ b. g x && b) (same_all f g h xs)

le_both : (e a b m : ℕ) → m ≡ e + b → nat_le (e + a) m ≡ nat_le a b
le_both e a b m is = elim (cases_Bool (nat_le a b)) [
  | inl le ↦ le-leb (e + a) m (omega (arith, is, leb-true a b le)) ∙ sym le
  | inr gt ↦ lt-leb (e + a) m (omega (arith, is, leb-false a b gt)) ∙ sym gt
]

-- one more is wanted and there
pub suffice_on : (kind : StageKind) (wanted kinds rest : List StageKind) → ((other : StageKind) → count_of other kinds ≡ count_of other (kind ∷ []) + count_of other rest)
    → suffice (kind ∷ wanted) kinds ≡ suffice wanted rest
suffice_on kind wanted kinds rest more =
    same_all (λ other. nat_le (count_of other (kind ∷ wanted)) (count_of other kinds)) (λ other. nat_le (count_of other wanted) (count_of other rest))
    (λ other. one other) (Gain ∷ Invert ∷ Pick ∷ Fade ∷ [])
  where
    one : (other : StageKind) → nat_le (count_of other (kind ∷ wanted)) (count_of other kinds) ≡ nat_le (count_of other wanted) (count_of other rest)
    one other =
        let e = count_of other (kind ∷ []) in
        let sum : count_of other (kind ∷ wanted) ≡ e + count_of other wanted = count_joined other (kind ∷ []) wanted in
        ap (λ n. nat_le n (count_of other kinds)) sum ∙ le_both e (count_of other wanted) (count_of other rest) (count_of other kinds) (more other)

-- .. and not there
fewer : (kind : StageKind) (wanted kinds : List StageKind) → count_of kind kinds ≡ 0 → nat_le (count_of kind (kind ∷ wanted)) (count_of kind kinds) ≡ false
fewer kind wanted kinds e =
    let one : ◌≡◌ {A = ℕ} (cond (is_kind kind kind) 1 0) 1 = ap (λ (b : Bool). cond {A = ℕ} b 1 0) (is_itself kind) in
    lt-leb (count_of kind (kind ∷ wanted)) (count_of kind kinds) (omega (arith, e, one, count_first kind kind wanted))

one_fails : (f : StageKind → Bool) (kind : StageKind) → f kind ≡ false → list_all f (Gain ∷ Invert ∷ Pick ∷ Fade ∷ []) ≡ false
one_fails f Gain e = and_left (f Gain) (f Invert && (f Pick && (f Fade && true))) e
one_fails f Invert e = and_right (f Gain) (f Invert && (f Pick && (f Fade && true))) (and_left (f Invert) (f Pick && (f Fade && true)) e)
one_fails f Pick e = and_right (f Gain) (f Invert && (f Pick && (f Fade && true))) (and_right (f Invert) (f Pick && (f Fade && true)) (and_left (f Pick) (f Fade && true) e))
one_fails f Fade e =
    and_right (f Gain) (f Invert && (f Pick && (f Fade && true))) (and_right (f Invert) (f Pick && (f Fade && true)) (and_right (f Pick) (f Fade && true) (and_left (f Fade) true e)))

pub none_suffice : (kind : StageKind) (wanted kinds : List StageKind) → count_of kind kinds ≡ 0 → suffice (kind ∷ wanted) kinds ≡ false
none_suffice kind wanted kinds e = one_fails (λ other. nat_le (count_of other (kind ∷ wanted)) (count_of other kinds)) kind (fewer kind wanted kinds e)

pub all_suffice : (kinds : List StageKind) → suffice [] kinds ≡ true
all_suffice kinds = same_all (λ other. nat_le 0 (count_of other kinds)) (λ other. true) (λ other. le-leb 0 (count_of other kinds) (omega arith)) (Gain ∷ Invert ∷ Pick ∷ Fade ∷ [])

-- a box that is brought to its place
module _ (xs : List StageKind) (at found : ℕ) (kind : StageKind) (le : at ≤ found) (there : slice_get xs found ≡ Some kind) (in_list : found < length xs) where
  abbrev pub rest : List StageKind
  rest = take (found - at) (drop at xs) ++ drop (found + 1) xs

  front : length (take at xs ++ kind ∷ []) ≡ at + 1
  front = length-append (take at xs) (kind ∷ []) ∙ (let e = length-take-le at xs (omega (arith, le, in_list)) in omega (arith, e))

  is : brought at found xs ≡ (take at xs ++ kind ∷ []) ++ rest
  is = ap (λ l. take at xs ++ (take 1 l ++ rest)) (drop_get xs found kind there) ∙ sym (append_assoc (take at xs) (kind ∷ []) rest)

  pub taken : take (at + 1) (brought at found xs) ≡ take at xs ++ kind ∷ []
  taken = ap (take (at + 1)) is ∙ take_at (take at xs ++ kind ∷ []) rest (at + 1) front

  pub others : drop (at + 1) (brought at found xs) ≡ rest
  others = ap (drop (at + 1)) is ∙ drop_at (take at xs ++ kind ∷ []) rest (at + 1) front

  pub counted : (other : StageKind) → count_of other (drop at xs) ≡ count_of other (kind ∷ []) + count_of other (drop (at + 1) (brought at found xs))
  counted other =
      let parts : drop at xs ≡ take (found - at) (drop at xs) ++ drop (found - at) (drop at xs) = sym (take-append-drop (found - at) (drop at xs)) in
      let place : at + (found - at) ≡ found = omega (arith, le) in
      let back : drop (found - at) (drop at xs) ≡ kind ∷ drop (found + 1) xs = drop-drop (found - at) at xs ∙ ap (λ n. drop n xs) place ∙ drop_get xs found kind there in
      let one = count_joined other (take (found - at) (drop at xs)) (drop (found - at) (drop at xs)) in
      let two = ap (count_of other) back in
      let three = count_joined other (kind ∷ []) (drop (found + 1) xs) in
      let four = count_joined other (take (found - at) (drop at xs)) (drop (found + 1) xs) in
      omega (arith, ap (count_of other) parts, one, two, three, four, ap (count_of other) others)

pub map_brought : {A B : Type 0} (f : A → B) (at found : ℕ) (xs : List A) → map f (brought at found xs) ≡ brought at found (map f xs)
map_brought f at found xs =
    map-append f (take at xs) (take 1 (drop found xs) ++ (take (found - at) (drop at xs) ++ drop (found + 1) xs))
    ∙ ap (λ l. map f (take at xs) ++ l) (map-append f (take 1 (drop found xs)) (take (found - at) (drop at xs) ++ drop (found + 1) xs)
    ∙ ap (λ l. map f (take 1 (drop found xs)) ++ l) (map-append f (take (found - at) (drop at xs)) (drop (found + 1) xs)))
    ∙ sym (simp (take-map, drop-map))

-- a list from its start to a place where an element stands
pub take_get : {X : Type 0} (xs : List X) (at : ℕ) (x : X) → slice_get xs at ≡ Some x → take (at + 1) xs ≡ take at xs ++ x ∷ []
take_get [] at x there = cc
take_get (y ∷ xs) zero x there = cc
take_get (y ∷ xs) (suc at) x there =
    let more : suc at + 1 ≡ suc (at + 1) = omega arith in
    ap (λ n. take n (y ∷ xs)) more ∙ ap (λ l. y ∷ l) (take_get xs at x there)

-- an element of another kind is not counted
pub not_counted : (kind other : StageKind) (kinds : List StageKind) (at : ℕ) → slice_get kinds at ≡ Some other → is_kind kind other ≡ false
    → count_of kind (drop at kinds) ≡ count_of kind (drop (at + 1) kinds)
not_counted kind other kinds at there apart =
    let one = count_first kind other (drop (at + 1) kinds) in
    let none : ◌≡◌ {A = ℕ} (cond (is_kind kind other) 1 0) 0 = ap (λ (b : Bool). cond {A = ℕ} b 1 0) apart in
    omega (arith, ap (count_of kind) (drop_get kinds at other there), one, none)

pub other_kind : (kind other : StageKind) → (other ≡ kind → ⊥) → is_kind kind other ≡ false
other_kind Gain Gain ne = absurd (ne refl)
other_kind Gain Invert ne = refl
other_kind Gain Pick ne = refl
other_kind Gain Fade ne = refl
other_kind Invert Gain ne = refl
other_kind Invert Invert ne = absurd (ne refl)
other_kind Invert Pick ne = refl
other_kind Invert Fade ne = refl
other_kind Pick Gain ne = refl
other_kind Pick Invert ne = refl
other_kind Pick Pick ne = absurd (ne refl)
other_kind Pick Fade ne = refl
other_kind Fade Gain ne = refl
other_kind Fade Invert ne = refl
other_kind Fade Pick ne = refl
other_kind Fade Fade ne = absurd (ne refl)

-- the order that a turn of a part leaves
pub bring_is : {X : Type 0} (at found : ℕ) (xs ys : List X) → at ≤ found → found < length xs
    → ys ≡ drop (length (take (found + 1 - at) (drop at xs)) - 1) (take (found + 1 - at) (drop at xs)) ++ take (length (take (found + 1 - at) (drop at xs)) - 1) (take (found + 1 - at) (drop at xs))
    → take at xs ++ (ys ++ drop (found + 1 - at) (drop at xs)) ≡ brought at found xs
bring_is at found xs ys le lt is =
    let k = found + 1 - at in
    let long : k ≤ length (drop at xs) = omega (arith, length-drop at xs, le, lt) in
    let more : k ≡ found - at + 1 = omega (arith, le) in
    let size : length (take k (drop at xs)) ≡ k = length-take-le k (drop at xs) long in
    let last : length (take k (drop at xs)) - 1 ≡ found - at = omega (arith, size, more) in
    let place : at + (found - at) ≡ found = omega (arith, le) in
    let past : at + k ≡ found + 1 = omega (arith, le) in
    let one : drop (length (take k (drop at xs)) - 1) (take k (drop at xs)) ≡ take 1 (drop found xs) =
    ap (λ m. drop m (take k (drop at xs))) last ∙ ap (λ j. drop (found - at) (take j (drop at xs))) more ∙ drop-take (found - at) 1 (drop at xs)
    ∙ ap (take 1) (drop-drop (found - at) at xs ∙ ap (λ m. drop m xs) place) in
    let between : take (length (take k (drop at xs)) - 1) (take k (drop at xs)) ≡ take (found - at) (drop at xs) =
    ap (λ m. take m (take k (drop at xs))) last ∙ take-take (found - at) k (drop at xs) (omega (arith, more)) in
    let behind : drop k (drop at xs) ≡ drop (found + 1) xs = drop-drop k at xs ∙ ap (λ m. drop m xs) past in
    ap (λ l. take at xs ++ (l ++ drop k (drop at xs))) is
    ∙ ap (λ l. take at xs ++ ((l ++ take (length (take k (drop at xs)) - 1) (take k (drop at xs))) ++ drop k (drop at xs))) one
    ∙ ap (λ l. take at xs ++ ((take 1 (drop found xs) ++ l) ++ drop k (drop at xs))) between
    ∙ ap (λ l. take at xs ++ ((take 1 (drop found xs) ++ take (found - at) (drop at xs)) ++ l)) behind
    ∙ ap (λ l. take at xs ++ l) (append_assoc (take 1 (drop found xs)) (take (found - at) (drop at xs)) (drop (found + 1) xs))

-- ---- the boxes of the first items

-- there is none for the next
pub none_left_of : (k kind : StageKind) (wanted kinds : List StageKind) (at : ℕ) → k ≡ kind → slice_get wanted at ≡ Some kind → count_of k (drop at kinds) ≡ 0
    → suffice (drop at wanted) (drop at kinds) ≡ false
none_left_of k kind wanted kinds at same there none =
    ap (λ l. suffice l (drop at kinds)) (drop_get wanted at kind there)
    ∙ none_suffice kind (drop (at + 1) wanted) (drop at kinds) (sym (ap (λ q. count_of q (drop at kinds)) same) ∙ none)

-- .. or one is brought to its place
module _ (k kind : StageKind) (wanted kinds new : List StageKind) (at found : ℕ) (same : k ≡ kind) (there : slice_get wanted at ≡ Some kind) (finds : Finds k at kinds (Some found))
    (is_new : new ≡ brought at found kinds) where
  pub chosen_on : take at kinds ≡ take at wanted → take (at + 1) new ≡ take (at + 1) wanted
  chosen_on before =
      ap (take (at + 1)) is_new ∙ taken kinds at found k finds.0 finds.2 finds.1 ∙ ap (λ l. l ++ k ∷ []) before ∙ ap (λ q. take at wanted ++ q ∷ []) same
      ∙ sym (take_get wanted at kind there)

  pub left_on : (all : Bool) → suffice (drop at wanted) (drop at kinds) ≡ all → suffice (drop (at + 1) wanted) (drop (at + 1) new) ≡ all
  left_on all left =
      ap (λ l. suffice (drop (at + 1) wanted) (drop (at + 1) l)) is_new
      ∙ sym (ap (λ l. suffice l (drop at kinds)) (drop_get wanted at kind there) ∙ ap (λ q. suffice (q ∷ drop (at + 1) wanted) (drop at kinds)) (sym same)
      ∙ suffice_on k (drop (at + 1) wanted) (drop at kinds) (drop (at + 1) (brought at found kinds)) (counted kinds at found k finds.0 finds.2 finds.1))
      ∙ left

pub take_whole : {A B : Type 0} (f : A → B) (xs : List A) (ws : List B) (at n : ℕ) → at ≡ n → length ws ≡ n → take at (map f xs) ≡ take at ws → map f (take n xs) ≡ ws
take_whole f xs ws at n is size same =
    sym (take-map f n xs) ∙ sym (ap (λ m. take m (map f xs)) is) ∙ same ∙ take_all at ws (omega (arith, is, size))

-- ---- boxes that are started

pub kind_here : {B : Type 0} (kind : B → StageKind) (old : List B) (items : List Stated) (at : ℕ) (x : B) (s : Stated) → map kind old ≡ map kind_of items → at < length old
    → x ≡ get_or old at x → slice_get items at ≡ Some s → kind x ≡ kind_of s
kind_here kind old items at x s same lt is there =
    let one : slice_get (map kind old) at ≡ Some (kind x) = slice_get-map kind old at ∙ ap (option_map kind) (slice_get_read old (length old) at x refl lt is) in
    let two : slice_get (map kind_of items) at ≡ Some (kind_of s) = slice_get-map kind_of items at ∙ ap (option_map kind_of) there in
    let all : Some (kind x) ≡ Some (kind_of s) = sym one ∙ ap (λ l. slice_get l at) same ∙ two in
    cc

pub start_on : {B : Type 0} (held : B → Held) (low high : ℤ) (items : List Stated) (stages : List B) (at : ℕ) (y : B) (h : Held) (s : Stated) → at < length stages
    → map held (take at stages) ≡ map (held_as low high 0) (take at items) → slice_get items at ≡ Some s → held y ≡ started s low high h → h.kind ≡ kind_of s
    → map held (take (at + 1) (set stages at y)) ≡ map (held_as low high 0) (take (at + 1) items)
start_on held low high items stages at y h s lt so_far there is kind =
    let made : held y ≡ held_as low high 0 s = is ∙ ap (λ (q : StageKind). record { kind = q; stated = s; low = low; high = high; seen = 0 }) kind in
    ap (map held) (take_more_set stages at y lt) ∙ map-append held (take at stages) (y ∷ []) ∙ ap (λ l. l ++ held y ∷ []) so_far
    ∙ ap (λ h. map (held_as low high 0) (take at items) ++ h ∷ []) made
    ∙ sym (ap (map (held_as low high 0)) (take_get items at s there) ∙ map-append (held_as low high 0) (take at items) (s ∷ []))
