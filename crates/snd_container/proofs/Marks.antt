-- What the first bytes of a file tell: its kind hangs on the marks of that kind alone.
use Rattle.std.proofs.Common.{◌≡◌, ◌⊎◌, ◌∙◌, ap, sym, subst, refl, inl, inr, ℕ, ◌+◌, ◌-◌, ◌<◌, ◌≤◌, Bool, true, false, not, ◌&&◌, ◌||◌, cond, List, [], ◌∷◌, ◌++◌, Ok, Err, length, take, drop, get_or, arith}
use Rattle.std.proofs.lemmas.Bool.{and_left, and_parts, cases_Bool, eq-eqb, eqb-true, le-leb, lt-ltb, ne_eqb}
use Rattle.std.proofs.lemmas.List.{places, same_lists}
use Rattle.std.specs.Cmp.Lexicographic.{as_long, pointwise}
use Rattle.std.specs.Prelude.{◌==◌, Result, codes, nat_le, nat_lt}
use Rattle.snd_layout.specs.Container.{is_mark}
use Rattle.snd_layout.specs.declared.kind.Kind.{Kind}
use Rattle.snd_layout.specs.declared.kind.Kind.TheVariants.{Wave, Rf64, W64, Au, Dns, Voc, Svx, Sphere}
use Rattle.snd_layout.specs.declared.refusal.OpenRefusal.{OpenRefusal}
use Rattle.snd_layout.specs.declared.refusal.OpenRefusal.TheVariants.{FloatRate, NotSound}
use Rattle.snd_container.specs.Recognised.{has_mark, holds_float_rate, is_form, recognised, riff_guid, wave_guid}

-- ---- marks

abbrev is_start : List ℕ → List ℕ → Bool
is_start mark l = pointwise (λ a b. a == b) mark (take (length mark) l)

-- two marks that no list begins with both
abbrev clash : List ℕ → List ℕ → Bool
clash [] other = false
clash (a ∷ mark) [] = false
clash (a ∷ mark) (b ∷ other) = not (a == b) || clash mark other

no_other : (mark other l : List ℕ) → is_start mark l ≡ true → clash mark other ≡ true → is_start other l ≡ false
no_other [] other l is clashes = absurd (cc)
no_other (a ∷ mark) [] l is clashes = absurd (cc)
no_other (a ∷ mark) (b ∷ other) [] is clashes = absurd (cc)
no_other (a ∷ mark) (b ∷ other) (c ∷ l) is clashes =
    let parts = and_parts (a == c) (is_start mark l) is in
    let same : a ≡ c = eqb-true a c parts.0 in
    elim (cases_Bool (a == b)) [
      | inl equal ↦
          let later : clash mark other ≡ true = let h = rw equal at clashes in h in
          let rest : is_start other l ≡ false = no_other mark other l parts.1 later in
          rest_is (b == c) (is_start other l) rest
      | inr differs ↦ and_left (b == c) (is_start other l) (ne_eqb b c (λ is_c. let e : a ≡ b = same ∙ sym is_c in let yes : (a == b) ≡ true = eq-eqb a b e in let never : false ≡ true = sym differs ∙ yes in cc))
    ]
  where
    rest_is : (s t : Bool) → t ≡ false → (s && t) ≡ false
    rest_is true t is = is
    rest_is false t is = refl

-- the first k bytes from a place on decide whether a mark stands there
part_same : (k at : ℕ) (x b : List ℕ) → at + k ≤ 40 → at + k ≤ length x → at + k ≤ length b → ((i : ℕ) → at ≤ i → i < at + k → get_or x i 0 ≡ get_or b i 0)
    → take k (drop at (take 40 x)) ≡ take k (drop at (take 40 b))
part_same k at x b few in_x in_b same = part k 40 at x b few in_x in_b same
  where
    part : (k m p : ℕ) (x y : List ℕ) → p + k ≤ m → p + k ≤ length x → p + k ≤ length y → ((i : ℕ) → p ≤ i → i < p + k → get_or x i 0 ≡ get_or y i 0) → take k (drop p (take m x)) ≡ take k (drop p (take m y))
    part k m p x y few in_x in_y same = same_lists _ _ (grind (arith, places)) (λ i d lt. grind (arith, places, same))

mark_same : (k at : ℕ) (x b mark : List ℕ) → length mark ≡ k → at + k ≤ 40 → at + k ≤ length x → at + k ≤ length b → ((i : ℕ) → at ≤ i → i < at + k → get_or x i 0 ≡ get_or b i 0)
    → has_mark (take 40 x) at mark ≡ has_mark (take 40 b) at mark
mark_same k at x b mark long few in_x in_b same =
    ap (λ (n : ℕ). pointwise (λ a c. a == c) mark (take n (drop at (take 40 x)))) long
    ∙ ap (λ (l : List ℕ). pointwise (λ a c. a == c) mark l) (part_same k at x b few in_x in_b same)
    ∙ ap (λ (n : ℕ). pointwise (λ a c. a == c) mark (take n (drop at (take 40 b)))) (sym long)

-- a list that has a mark is as long
mark_within : (k at : ℕ) (b mark : List ℕ) → length mark ≡ k → 1 ≤ k → has_mark (take 40 b) at mark ≡ true → at + k ≤ length b
mark_within k at b mark long some is =
    let size : length mark ≡ length (take (length mark) (drop at (take 40 b))) = as_long (λ a c. a == c) mark (take (length mark) (drop at (take 40 b))) is in
    within k at 40 b (omega (arith, long, some)) (sym long ∙ size ∙ ap (λ (n : ℕ). length (take n (drop at (take 40 b)))) long)
  where
    within : (k p m : ℕ) (b : List ℕ) → 1 ≤ k → k ≡ length (take k (drop p (take m b))) → p + k ≤ length b
    within k p m b some is = grind (arith, places)

-- ---- the marks of a kind

abbrev is_kinds : Kind → List ℕ → Bool
is_kinds Wave head = is_form head (codes "RIFF") (codes "WAVE")
is_kinds Rf64 head = is_form head (codes "RF64") (codes "WAVE")
is_kinds W64 head = has_mark head 0 riff_guid && has_mark head 24 wave_guid
is_kinds Au head = has_mark head 0 (codes ".snd")
is_kinds Dns head = has_mark head 0 (codes "dns.")
is_kinds Voc head = has_mark head 0 (codes "Creative Voice File" ++ 0x1a ∷ [])
is_kinds Svx head = is_form head (codes "FORM") (codes "8SVX")
is_kinds Sphere head = has_mark head 0 (codes "NIST_1A\n")

abbrev first_mark : Kind → List ℕ
first_mark Wave = codes "RIFF"
first_mark Rf64 = codes "RF64"
first_mark W64 = riff_guid
first_mark Au = codes ".snd"
first_mark Dns = codes "dns."
first_mark Voc = codes "Creative Voice File" ++ 0x1a ∷ []
first_mark Svx = codes "FORM"
first_mark Sphere = codes "NIST_1A\n"

begins : (kind : Kind) (head : List ℕ) → is_kinds kind head ≡ true → has_mark head 0 (first_mark kind) ≡ true
begins Wave head is = (and_parts (has_mark head 0 (codes "RIFF")) (has_mark head 8 (codes "WAVE")) is).0
begins Rf64 head is = (and_parts (has_mark head 0 (codes "RF64")) (has_mark head 8 (codes "WAVE")) is).0
begins W64 head is = (and_parts (has_mark head 0 riff_guid) (has_mark head 24 wave_guid) is).0
begins Au head is = is
begins Dns head is = is
begins Voc head is = is
begins Svx head is = (and_parts (has_mark head 0 (codes "FORM")) (has_mark head 8 (codes "8SVX")) is).0
begins Sphere head is = is

begins_not : (kind : Kind) (head : List ℕ) → has_mark head 0 (first_mark kind) ≡ false → is_kinds kind head ≡ false
begins_not Wave head is = and_left (has_mark head 0 (codes "RIFF")) (has_mark head 8 (codes "WAVE")) is
begins_not Rf64 head is = and_left (has_mark head 0 (codes "RF64")) (has_mark head 8 (codes "WAVE")) is
begins_not W64 head is = and_left (has_mark head 0 riff_guid) (has_mark head 24 wave_guid) is
begins_not Au head is = is
begins_not Dns head is = is
begins_not Voc head is = is
begins_not Svx head is = and_left (has_mark head 0 (codes "FORM")) (has_mark head 8 (codes "8SVX")) is
begins_not Sphere head is = is

-- a file of one kind is of no other
no_other_kind : (kind other : Kind) (head : List ℕ) → is_kinds kind head ≡ true → clash (first_mark kind) (first_mark other) ≡ true → is_kinds other head ≡ false
no_other_kind kind other head is clashes = begins_not other head (no_other (first_mark kind) (first_mark other) (drop 0 head) (begins kind head is) clashes)

abbrev chain : Bool → Bool → Bool → Bool → Bool → Bool → Bool → Bool → Bool → Result Kind OpenRefusal
chain a b c d e f g j k =
    cond a (Ok Wave) (cond b (Ok Rf64) (cond c (Ok W64) (cond d (Ok Au) (cond e (Ok Dns) (cond f (Ok Voc) (cond g (Ok Svx) (cond j (Ok Sphere) (cond k (Err FloatRate) (Err NotSound)))))))))

abbrev flag : Kind → Bool → Bool → Bool → Bool → Bool → Bool → Bool → Bool → Bool
flag Wave a b c d e f g j = a
flag Rf64 a b c d e f g j = b
flag W64 a b c d e f g j = c
flag Au a b c d e f g j = d
flag Dns a b c d e f g j = e
flag Voc a b c d e f g j = f
flag Svx a b c d e f g j = g
flag Sphere a b c d e f g j = j

of_chain : (kind : Kind) (a b c d e f g j k : Bool) → chain a b c d e f g j k ≡ Ok kind → flag kind a b c d e f g j ≡ true
of_chain kind true b c d e f g j k is = let same : Wave ≡ kind = cc in subst (λ (o : Kind). flag o true b c d e f g j ≡ true) same refl
of_chain kind false true c d e f g j k is = let same : Rf64 ≡ kind = cc in subst (λ (o : Kind). flag o false true c d e f g j ≡ true) same refl
of_chain kind false false true d e f g j k is = let same : W64 ≡ kind = cc in subst (λ (o : Kind). flag o false false true d e f g j ≡ true) same refl
of_chain kind false false false true e f g j k is = let same : Au ≡ kind = cc in subst (λ (o : Kind). flag o false false false true e f g j ≡ true) same refl
of_chain kind false false false false true f g j k is = let same : Dns ≡ kind = cc in subst (λ (o : Kind). flag o false false false false true f g j ≡ true) same refl
of_chain kind false false false false false true g j k is = let same : Voc ≡ kind = cc in subst (λ (o : Kind). flag o false false false false false true g j ≡ true) same refl
of_chain kind false false false false false false true j k is = let same : Svx ≡ kind = cc in subst (λ (o : Kind). flag o false false false false false false true j ≡ true) same refl
of_chain kind false false false false false false false true k is = let same : Sphere ≡ kind = cc in subst (λ (o : Kind). flag o false false false false false false false true ≡ true) same refl
of_chain kind false false false false false false false false true is = absurd (cc)
of_chain kind false false false false false false false false false is = absurd (cc)

flag_is : (kind : Kind) (head : List ℕ) → flag kind (is_kinds Wave head) (is_kinds Rf64 head) (is_kinds W64 head) (is_kinds Au head) (is_kinds Dns head) (is_kinds Voc head) (is_kinds Svx head) (is_kinds Sphere head) ≡ is_kinds kind head
flag_is Wave head = refl
flag_is Rf64 head = refl
flag_is W64 head = refl
flag_is Au head = refl
flag_is Dns head = refl
flag_is Voc head = refl
flag_is Svx head = refl
flag_is Sphere head = refl

-- a kind is known by its marks
pub marks_of_kind : (kind : Kind) (head : List ℕ) → recognised head ≡ Ok kind → is_kinds kind head ≡ true
unfolding recognised
marks_of_kind kind head is =
    sym (flag_is kind head) ∙ of_chain kind (is_kinds Wave head) (is_kinds Rf64 head) (is_kinds W64 head) (is_kinds Au head) (is_kinds Dns head) (is_kinds Voc head) (is_kinds Svx head) (is_kinds Sphere head) (holds_float_rate head) is

chain_is : (kind : Kind) (head : List ℕ) → is_kinds kind head ≡ true
    → chain (is_kinds Wave head) (is_kinds Rf64 head) (is_kinds W64 head) (is_kinds Au head) (is_kinds Dns head) (is_kinds Voc head) (is_kinds Svx head) (is_kinds Sphere head) (holds_float_rate head) ≡ Ok kind
chain_is kind head is = by_kind kind is
  where
    is_not : (kind other : Kind) → is_kinds kind head ≡ true → clash (first_mark kind) (first_mark other) ≡ true → is_kinds other head ≡ false
    is_not kind other is clashes = no_other_kind kind other head is clashes

    by_kind : (kind : Kind) → is_kinds kind head ≡ true
        → chain (is_kinds Wave head) (is_kinds Rf64 head) (is_kinds W64 head) (is_kinds Au head) (is_kinds Dns head) (is_kinds Voc head) (is_kinds Svx head) (is_kinds Sphere head) (holds_float_rate head) ≡ Ok kind
    by_kind Wave is = rw is refl
    by_kind Rf64 is = rw (is_not Rf64 Wave is refl, is) refl
    by_kind W64 is = rw (is_not W64 Wave is refl, is_not W64 Rf64 is refl, is) refl
    by_kind Au is = rw (is_not Au Wave is refl, is_not Au Rf64 is refl, is_not Au W64 is refl, is) refl
    by_kind Dns is = rw (is_not Dns Wave is refl, is_not Dns Rf64 is refl, is_not Dns W64 is refl, is_not Dns Au is refl, is) refl
    by_kind Voc is = rw (is_not Voc Wave is refl, is_not Voc Rf64 is refl, is_not Voc W64 is refl, is_not Voc Au is refl, is_not Voc Dns is refl, is) refl
    by_kind Svx is = rw (is_not Svx Wave is refl, is_not Svx Rf64 is refl, is_not Svx W64 is refl, is_not Svx Au is refl, is_not Svx Dns is refl, is_not Svx Voc is refl, is) refl
    by_kind Sphere is =
        rw (is_not Sphere Wave is refl, is_not Sphere Rf64 is refl, is_not Sphere W64 is refl, is_not Sphere Au is refl, is_not Sphere Dns is refl, is_not Sphere Voc is refl, is_not Sphere Svx is refl, is) refl

pub kind_of_marks : (kind : Kind) (head : List ℕ) → is_kinds kind head ≡ true → recognised head ≡ Ok kind
unfolding recognised
kind_of_marks kind head is = chain_is kind head is

-- ---- another file with the same marks

abbrev pub SameMarks : Kind → List ℕ → List ℕ → Type 0
SameMarks kind x b = (i : ℕ) → is_mark kind i ≡ true → ((i < length x) ⊎ (length x ≡ length b)) × (get_or x i 0 ≡ get_or b i 0)

-- a mark of k bytes at a place
one_mark : (kind : Kind) (k at : ℕ) (x b mark : List ℕ) → length mark ≡ k → 1 ≤ k → at + k ≤ 40 → ((i : ℕ) → at ≤ i → i < at + k → is_mark kind i ≡ true) → SameMarks kind x b
    → has_mark (take 40 b) at mark ≡ true → has_mark (take 40 x) at mark ≡ true
one_mark kind k at x b mark long some few among same is =
    let in_b : at + k ≤ length b = mark_within k at b mark long some is in
    let in_x : at + k ≤ length x = elim ((same (at + k - 1) (among (at + k - 1) (omega (arith, some)) (omega (arith, some)))).0) [ inl there ↦ omega (arith, there, some) | inr long ↦ omega (arith, long, in_b) ] in
    mark_same k at x b mark long few in_x in_b (λ i from to. (same i (among i from to)).1) ∙ is

front_mark : (n i : ℕ) → i < n → (rest : Bool) → (nat_lt i n || rest) ≡ true
front_mark n i lt rest = let is : nat_lt i n ≡ true = lt-ltb i n lt in rw is refl

back_mark : (first from to i : ℕ) → from ≤ i → i < to → (nat_lt i first || (nat_le from i && nat_lt i to)) ≡ true
back_mark first from to i le lt = let a : nat_le from i ≡ true = le-leb from i le in let b : nat_lt i to ≡ true = lt-ltb i to lt in
    elim (cases_Bool (nat_lt i first)) [ inl is ↦ rw is refl | inr other ↦ rw (other, a, b) refl ]

both_true : (s t : Bool) → s ≡ true → t ≡ true → (s && t) ≡ true
both_true s t one two = rw (one, two) refl

marks_stay : (kind : Kind) (x b : List ℕ) → SameMarks kind x b → is_kinds kind (take 40 b) ≡ true → is_kinds kind (take 40 x) ≡ true
marks_stay Wave x b same is =
    let parts = and_parts (has_mark (take 40 b) 0 (codes "RIFF")) (has_mark (take 40 b) 8 (codes "WAVE")) is in
    both_true (has_mark (take 40 x) 0 (codes "RIFF")) (has_mark (take 40 x) 8 (codes "WAVE"))
    (one_mark Wave 4 0 x b (codes "RIFF") refl (omega arith) (omega arith) (λ i from to. front_mark 4 i to (nat_le 8 i && nat_lt i 12)) same parts.0)
    (one_mark Wave 4 8 x b (codes "WAVE") refl (omega arith) (omega arith) (λ i from to. back_mark 4 8 12 i from to) same parts.1)
marks_stay Rf64 x b same is =
    let parts = and_parts (has_mark (take 40 b) 0 (codes "RF64")) (has_mark (take 40 b) 8 (codes "WAVE")) is in
    both_true (has_mark (take 40 x) 0 (codes "RF64")) (has_mark (take 40 x) 8 (codes "WAVE"))
    (one_mark Rf64 4 0 x b (codes "RF64") refl (omega arith) (omega arith) (λ i from to. front_mark 4 i to (nat_le 8 i && nat_lt i 12)) same parts.0)
    (one_mark Rf64 4 8 x b (codes "WAVE") refl (omega arith) (omega arith) (λ i from to. back_mark 4 8 12 i from to) same parts.1)
marks_stay W64 x b same is =
    let parts = and_parts (has_mark (take 40 b) 0 riff_guid) (has_mark (take 40 b) 24 wave_guid) is in
    both_true (has_mark (take 40 x) 0 riff_guid) (has_mark (take 40 x) 24 wave_guid)
    (one_mark W64 16 0 x b riff_guid refl (omega arith) (omega arith) (λ i from to. front_mark 16 i to (nat_le 24 i && nat_lt i 40)) same parts.0)
    (one_mark W64 16 24 x b wave_guid refl (omega arith) (omega arith) (λ i from to. back_mark 16 24 40 i from to) same parts.1)
marks_stay Au x b same is = one_mark Au 4 0 x b (codes ".snd") refl (omega arith) (omega arith) (λ i from to. lt-ltb i 4 to) same is
marks_stay Dns x b same is = one_mark Dns 4 0 x b (codes "dns.") refl (omega arith) (omega arith) (λ i from to. lt-ltb i 4 to) same is
marks_stay Voc x b same is = one_mark Voc 20 0 x b (codes "Creative Voice File" ++ 0x1a ∷ []) refl (omega arith) (omega arith) (λ i from to. lt-ltb i 20 to) same is
marks_stay Svx x b same is =
    let parts = and_parts (has_mark (take 40 b) 0 (codes "FORM")) (has_mark (take 40 b) 8 (codes "8SVX")) is in
    both_true (has_mark (take 40 x) 0 (codes "FORM")) (has_mark (take 40 x) 8 (codes "8SVX"))
    (one_mark Svx 4 0 x b (codes "FORM") refl (omega arith) (omega arith) (λ i from to. front_mark 4 i to (nat_le 8 i && nat_lt i 12)) same parts.0)
    (one_mark Svx 4 8 x b (codes "8SVX") refl (omega arith) (omega arith) (λ i from to. back_mark 4 8 12 i from to) same parts.1)
marks_stay Sphere x b same is = one_mark Sphere 8 0 x b (codes "NIST_1A\n") refl (omega arith) (omega arith) (λ i from to. lt-ltb i 8 to) same is

-- a file with the marks of another is of its kind
pub recognised_too : (kind : Kind) (x b : List ℕ) → SameMarks kind x b → recognised (take 40 b) ≡ Ok kind → recognised (take 40 x) ≡ Ok kind
recognised_too kind x b same is = kind_of_marks kind (take 40 x) (marks_stay kind x b same (marks_of_kind kind (take 40 b) is))
