-- A header whose count has other digits says the same, but for the count.
use Rattle.std.proofs.Common.{◌≡◌, ℕ, ◌+◌, ◌-◌, ◌^◌, ◌<◌, ◌≤◌, Bool, true, false, List, [], ◌∷◌, ◌++◌, Option, None, Some, Ok, refl, sym, ap, ◌∙◌, inl, inr, drop, length, take, arith}
use Rattle.std.proofs.lemmas.Bool.{cases_Bool}
use Rattle.std.proofs.lemmas.Bool.Decides.{Decides-eqb}
use Rattle.std.proofs.lemmas.List.{drop_at, length-append, length-drop, places, same_lists}
use Rattle.std.proofs.lemmas.Slice.Eq.{starts_is}
use Rattle.std.specs.List.{list_any}
use Rattle.std.specs.Prelude.{codes}
use Rattle.snd_fields.specs.Field.{with_field}
use Rattle.snd_sphere.specs.declared.stated.Stated.{Stated}
use Rattle.snd_sphere.specs.Layout.{count_of, has_end, has_float, heading_of, is_float}
use Rattle.snd_sphere.specs.Lines.{TextLine, all_lines, are_named, before_end, begins, has_name, is_end, lines_from, named, number_in, number_of, number_text, only, stated_by}
use Rattle.snd_sphere.proofs.Digits.{text_facts}
use Rattle.snd_sphere.proofs.Headings.{heading_same}
use Rattle.snd_sphere.proofs.Splits.{Before, NoFeed, Only, Stands, any_same, ends_behind, filter_same, no_feed_append, only_one, stands}

pub begins_with : (front text : List ℕ) → begins front text ≡ true → text ≡ front ++ drop (length front) text
begins_with front text is = (starts_is Decides-eqb text front (begins front text) refl).0 is

pub begins_so : (front v : List ℕ) → begins front (front ++ v) ≡ true
begins_so front v = (starts_is Decides-eqb (front ++ v) front (begins front (front ++ v)) refl).1 v refl

-- the line that states a number, and what it states
pub record States (front : List ℕ) (most : ℕ) (lines : List TextLine) (s : Stated) : Type 0 where
  pub line : TextLine
  pub is : lines ≡ line ∷ []
  pub text : line.text ≡ front ++ drop (length front) line.text
  pub place : s.at ≡ line.at + length front
  pub size : s.size ≡ length line.text - length front
  pub value : number_text most (drop (length front) line.text) ≡ Some s.value

by_number : (front : List ℕ) (line : TextLine) (s : Stated) (o : Option ℕ) → stated_by front line o ≡ Ok (Some s) → (o ≡ Some s.value) × (s.at ≡ line.at + length front) × (s.size ≡ length line.text - length front)
by_number front line s None told = absurd (cc)
by_number front line s (Some n) told =
    let e : record { value = n; at = line.at + length front; size = length line.text - length front } ≡ s = cc in
    (ap (λ (k : Stated). Some k.value) e, sym (ap (λ (k : Stated). k.at) e), sym (ap (λ (k : Stated). k.size) e))

states_by : (front : List ℕ) (most : ℕ) (line : TextLine) (s : Stated) → stated_by front line (number_in front most line.text) ≡ Ok (Some s) → States front most (line ∷ []) s
states_by front most line s told =
    let parts = by_number front line s (number_in front most line.text) told in
    elim (cases_Bool (begins front line.text)) [
      | inl is ↦ record {
        line = line;
        is = refl;
        text = begins_with front line.text is;
        place = parts.1;
        size = parts.2;
        value = (let e : number_in front most line.text ≡ Some s.value = parts.0 in rw is at e);
      }
      | inr other ↦ absurd (let e : number_in front most line.text ≡ Some s.value = parts.0 in let none : None ≡ Some s.value = rw other at e in cc)
    ]

pub states : (front : List ℕ) (most : ℕ) (lines : List TextLine) (s : Stated) → number_of front most (only lines) ≡ Ok (Some s) → States front most lines s
states front most [] s told = absurd (cc)
states front most (line ∷ []) s told = states_by front most line s told
states front most (line ∷ other ∷ lines) s told = absurd (cc)

-- a line with other digits states another number
pub states_other : (front : List ℕ) (most : ℕ) (at : ℕ) (v : List ℕ) (n : ℕ) → number_text most v ≡ Some n
    → number_of front most (only ((record { at = at; text = front ++ v }) ∷ [])) ≡ Ok (Some (record { value = n; at = at + length front; size = length v }))
states_other front most at v n told =
    let cut : drop (length front) (front ++ v) ≡ v = drop_at front v (length front) refl in
    let number : number_in front most (front ++ v) ≡ Some n = rw (begins_so front v) (rw cut told) in
    let size : length (front ++ v) - length front ≡ length v = omega (arith, length-append front v) in
    ap (stated_by front (record { at = at; text = front ++ v })) number
    ∙ ap (λ (k : ℕ). Ok (Some (record { value = n; at = at + length front; size = k }))) size

-- digits put behind the front of a line
placed_at : (h v : List ℕ) (m d n : ℕ) → m + d + n + length v ≤ length h → drop m (with_field h (m + d + n) v) ≡ with_field (drop m h) d (take n (drop d (drop m h)) ++ v)
placed_at h v m d n within = same_lists _ _ (grind (arith, places)) (λ k e below. grind (arith, places))

front_of : (n : ℕ) (t s front : List ℕ) → s ≡ front ++ t → n ≡ length front → take n s ≡ front
front_of n t s front is size = rw (is, size) (same_lists _ _ (grind (arith, places)) (λ k e below. grind (arith, places)))

take_front : (n m : ℕ) (s front : List ℕ) → n ≤ m → take m s ≡ front → take n s ≡ take n front
take_front n m s front le is = rw (sym is) (same_lists _ _ (grind (arith, places)) (λ k e below. grind (arith, places)))

beside : (h v : List ℕ) (a n at : ℕ) → a + n ≤ at → at + length v ≤ length h → take n (drop a (with_field h at v)) ≡ take n (drop a h)
beside h v a n at before within = same_lists _ _ (grind (arith, places)) (λ k e below. grind (arith, places))

abbrev front : List ℕ
front = codes "sample_count -i "

abbrev word : List ℕ
word = codes "sample_count "

abbrev tests : List ℕ → TextLine → Bool
tests w line = has_name w line.text

-- the count's line in a header, and what the header is once its digits are replaced
module _ (h : List ℕ) (s : Stated) (told : count_of h ≡ Ok (Some s)) where
  st : States front (2 ^ 63 - 1) (named word h) s
  st = states front (2 ^ 63 - 1) (named word h) s told

  one : Only (tests word) (before_end (all_lines h)) st.line
  one = only_one (tests word) (before_end (all_lines h)) st.line st.is

  more : Before (all_lines h) one.before st.line one.behind
  more = ends_behind one.before (all_lines h) st.line one.behind one.is

  lines_are : lines_from 16 [] (drop 16 h) ≡ one.before ++ st.line ∷ more.further
  unfolding all_lines
  lines_are = more.is

  spot : Stands 16 (drop 16 h) one.before st.line more.further
  spot = stands one.before 16 (drop 16 h) st.line more.further lines_are

  long : length st.line.text ≡ 16 + s.size
  long = omega (arith, st.size, ap length st.text, length-append front (drop 16 st.line.text))

  cut_size : length (drop 16 st.line.text) ≡ s.size
  cut_size = omega (arith, length-drop 16 st.line.text, long)

  pub digits_few : (1 ≤ s.size) × (s.size ≤ 18) × (s.value < 10 ^ s.size)
  digits_few = let f = text_facts (2 ^ 63 - 1) (drop 16 st.line.text) s.value st.value in rw cut_size at f

  pub stands_behind : 32 ≤ s.at
  stands_behind = omega (arith, st.place, spot.is_at)

  pub stands_within : s.at + s.size ≤ length h
  stands_within = omega (arith, st.place, spot.is_at, spot.inside, long, length-drop 16 h)

  module _ (v : List ℕ) (clean : NoFeed v) (size : length v ≡ s.size) where
    abbrev line' : TextLine
    line' = record { at = st.line.at; text = front ++ v }

    put : drop 16 (with_field h s.at v) ≡ with_field (drop 16 h) spot.place (front ++ v)
    put =
        let at : s.at ≡ 16 + spot.place + 16 = omega (arith, st.place, spot.is_at) in
        let fronted : take 16 (drop spot.place (drop 16 h)) ≡ front =
        take_front 16 (length st.line.text) (drop spot.place (drop 16 h)) st.line.text (omega (arith, long)) spot.text ∙ front_of 16 (drop 16 st.line.text) st.line.text front st.text refl in
        ap (λ (k : ℕ). drop 16 (with_field h k v)) at ∙ placed_at h v 16 spot.place 16 (omega (arith, at, stands_within, size))
        ∙ ap (λ (f : List ℕ). with_field (drop 16 h) spot.place (f ++ v)) fronted

    lines' : all_lines (with_field h s.at v) ≡ one.before ++ line' ∷ more.further
    unfolding all_lines
    lines' = ap (lines_from 16 []) put ∙ spot.replaced (front ++ v) (no_feed_append front v refl clean) (omega (arith, long, size, length-append front v))

    before' : before_end (all_lines (with_field h s.at v)) ≡ one.before ++ line' ∷ one.behind
    before' = ap before_end lines' ∙ more.replaced line' refl

    same_named : (w : List ℕ) → ((t : List ℕ) → has_name w (front ++ t) ≡ false) → named w (with_field h s.at v) ≡ named w h
    same_named w other =
        ap (are_named w) before' ∙ filter_same (tests w) one.before one.behind st.line line' (ap (has_name w) st.text ∙ other (drop 16 st.line.text)) (other v)
        ∙ sym (ap (are_named w) one.is)

    pub counted_so : (n : ℕ) → number_text (2 ^ 63 - 1) v ≡ Some n → count_of (with_field h s.at v) ≡ Ok (Some (record { value = n; at = s.at; size = s.size }))
    counted_so n number =
        let only_this : named word (with_field h s.at v) ≡ line' ∷ [] = ap (are_named word) before' ∙ one.replaced line' refl in
        ap (λ (ls : List TextLine). number_of front (2 ^ 63 - 1) (only ls)) only_this ∙ states_other front (2 ^ 63 - 1) st.line.at v n number
        ∙ ap (λ (k : ℕ). Ok (Some (record { value = n; at = k; size = length v }))) (sym st.place) ∙ ap (λ (k : ℕ). Ok (Some (record { value = n; at = s.at; size = k }))) size

    same_end : has_end (with_field h s.at v) ≡ has_end h
    same_end = ap (list_any is_end) lines' ∙ any_same is_end one.before more.further st.line line' (sym (ap (λ (t : List ℕ). is_end (record { at = 0; text = t })) st.text)) ∙ sym (ap (list_any is_end) more.is)

    same_float : has_float (with_field h s.at v) ≡ has_float h
    same_float = ap (list_any is_float) before' ∙ any_same is_float one.before one.behind st.line line' (sym (ap (λ (t : List ℕ). is_float (record { at = 0; text = t })) st.text)) ∙ sym (ap (list_any is_float) one.is)

    same_mark : take 8 (drop 8 (with_field h s.at v)) ≡ take 8 (drop 8 h)
    same_mark = beside h v 8 8 s.at (omega (arith, stands_behind)) (omega (arith, stands_within, size))

    pub heading_stays : heading_of (with_field h s.at v) ≡ heading_of h
    heading_stays = heading_same (with_field h s.at v) h same_end same_float same_mark
        (same_named (codes "channel_count ") (λ t. refl)) (same_named (codes "sample_rate ") (λ t. refl)) (same_named (codes "sample_n_bytes ") (λ t. refl))
        (same_named (codes "sample_byte_format ") (λ t. refl)) (same_named (codes "sample_coding ") (λ t. refl))
