-- AU files keep the laws of a container.
use Rattle.std.proofs.Common.{◌≡◌, ◌⊎◌, ◌∙◌, ap, sym, subst, refl, inl, inr, ℕ, ◌+◌, ◌-◌, ◌*◌, ◌/◌, ◌^◌, ◌<◌, ◌≤◌, Bool, true, false, ◌||◌, List, [], All, Option, None, Some, Ok, length, get_or, min, arith}
use Rattle.std.proofs.lemmas.Bool.{and_left, and_right, eq-eqb, eqb-true, le-ltb, lt-leb, ltb-true, ne_eqb}
use Rattle.std.proofs.lemmas.Nat.{div-mul-add}
use Rattle.std.specs.Prelude.{◌==◌, ◌&&◌, IsTrue, nat_le, nat_lt}
use Rattle.snd_disk.specs.Runs.{HasAt, HasFieldOf}
use Rattle.snd_fields.proofs.Numbers.{bytes_are_bytes, length-bytes_of, number_fits, number_of_bytes, number_same}
use Rattle.snd_fields.specs.Field.{bytes_of, number}
use Rattle.snd_fields.specs.Laws.{IsByte}
use Rattle.snd_fields.specs.declared.field.Order.{Order}
use Rattle.snd_fields.specs.declared.field.Order.TheVariants.{Little, Big}
use Rattle.snd_layout.specs.Blocks.{block_align}
use Rattle.snd_layout.specs.Container.{AreBytes, ClosesNear, EndsAreInOrder, FieldsApart, FillsFields, FitsField, FitsFields, KeepsHead, KeepsMarks, LiesIn, NewCountReadsBack, OldCountReadsBack, PiecesStay, SameBody, SameOutsideDataReadsBack, SameValues, Says, VoiceDeclares, VoiceReadsBack, counted_shape, is_in, is_in_fields, is_in_some, is_mark}
use Rattle.snd_layout.specs.Params.{AreParams, Parameters, data_bytes}
use Rattle.snd_layout.specs.Shape.{KeepsRule, Shape, is_inner_size, room}
use Rattle.snd_layout.specs.declared.field.Field.{Field}
use Rattle.snd_layout.specs.declared.kind.Kind.{Kind}
use Rattle.snd_layout.specs.declared.kind.Kind.TheVariants.{Au, Dns, Voc}
use Rattle.snd_layout.proofs.Codecs.{blocks_of, fixed_bytes}
use Rattle.snd_au.proofs.Encodings.{AreFixed, IsStated, are_fixed, stated}
use Rattle.snd_au.proofs.Opens.{AreWords, IsGiven, IsPlaced, LiesWell, Opens, gives, held_known, lies_well, long_enough, opens}
use Rattle.snd_au.specs.Container.{au}
use Rattle.snd_au.specs.Layout.{au_layout, au_shape, held, is_unknown, kind_of, layout_of, numbers_of, params_in}
use Rattle.snd_au.specs.Values.{inner_value, order_of}
use Rattle.snd_au.specs.declared.numbers.Numbers.{Numbers}

-- ---- what a file says

not_voc : (order : Order) (k : Kind) → k ≡ kind_of order → k ≡ Voc → ⊥
not_voc Big k is voc = let no : Au ≡ Voc = sym is ∙ voc in cc
not_voc Little k is voc = let no : Dns ≡ Voc = sym is ∙ voc in cc

kind_is : (order : Order) (b : List ℕ) (h : Shape) → au_layout order b ≡ Ok h → h.kind ≡ kind_of order
kind_is order b h is = let from : Opens order b h = opens order b h is in ap (λ (s : Shape). s.kind) from.gives.shape

same_end : (h : Shape) (goes_on : Bool) → (h.kind ≡ Voc) ⊎ (goes_on ≡ h.trailing) → (h.kind ≡ Voc → ⊥) → record h { trailing = goes_on } ≡ h
same_end h goes_on (inl voc) other = absurd (other voc)
same_end h goes_on (inr is) other = ap (λ (t : Bool). record h { trailing = t }) is

said : (order : Order) (b : List ℕ) (h : Shape) → Says (au order) b h → au_layout order b ≡ Ok h
said order b h says =
    says.told ∙ ap (λ (s : Shape). Ok s) (same_end h says.goes_on says.same (not_voc order h.kind (kind_is order b (record h { trailing = says.goes_on }) says.told)))

says_so : (order : Order) (b : List ℕ) (h : Shape) → au_layout order b ≡ Ok h → Says (au order) b h
says_so order b h is = record { goes_on = h.trailing; told = is; same = inr refl }

-- ---- the numbers of two heads

abbrev SameAt : List ℕ → List ℕ → ℕ → ℕ → Type 0
SameAt x b from to = (i : ℕ) → from ≤ i → i < to → get_or x i 0 ≡ get_or b i 0

same_number : (order : Order) (x b : List ℕ) (at from to : ℕ) → SameAt x b from to → from ≤ at → at + 4 ≤ to → number order x at 4 ≡ number order b at 4
same_number order x b at from to same early late =
    number_same order 4 at at x b (λ i p q lt pe qe. rw (pe, qe) (same (at + i) (omega arith) (omega arith)))

pub same_fields : (o o' s s' e e' r r' c c' : ℕ) → o ≡ o' → s ≡ s' → e ≡ e' → r ≡ r' → c ≡ c'
    → ◌≡◌ {A = Numbers} (record { offset = o; bytes = s; encoding = e; rate = r; channels = c }) (record { offset = o'; bytes = s'; encoding = e'; rate = r'; channels = c' })
same_fields o o' s s' e e' r r' c c' one two three four five = rw (one, two, three, four, five) refl

same_numbers : (order : Order) (x b : List ℕ) (n : ℕ) → SameAt x b 4 8 → SameAt x b 12 24 → number order x 8 4 ≡ n → numbers_of order x ≡ record (numbers_of order b) { bytes = n }
same_numbers order x b n before behind is =
    same_fields _ _ _ _ _ _ _ _ _ _ (same_number order x b 4 4 8 before (omega arith) (omega arith)) is (same_number order x b 12 12 24 behind (omega arith) (omega arith))
    (same_number order x b 16 12 24 behind (omega arith) (omega arith)) (same_number order x b 20 12 24 behind (omega arith) (omega arith))

pub has_number : (order : Order) (x : List ℕ) (at n : ℕ) → HasAt x at (bytes_of order 4 n) → n < 2 ^ 32 → number order x at 4 ≡ n
has_number order x at n has few =
    number_same order 4 at 0 x (bytes_of order 4 n) (λ i p q lt pe qe. let there : get_or x (at + i) 0 ≡ get_or (bytes_of order 4 n) i 0 = has i (omega (arith, length-bytes_of order 4 n)) in
    let place : q ≡ i = omega (arith, qe) in rw (pe, place) there)
    ∙ number_of_bytes order 4 n (omega arith)

words : (order : Order) (b : List ℕ) → All IsByte b → AreWords (numbers_of order b)
words order b bytes = record { offset = number_fits order b 4 4 bytes; bytes = number_fits order b 8 4 bytes }

-- ---- places of a head

outside : (at size i : ℕ) → (i < at) ⊎ (at + size ≤ i) → (nat_le at i && nat_lt i (at + size)) ≡ false
outside at size i (inl before) = and_left (nat_le at i) (nat_lt i (at + size)) (lt-leb at i before)
outside at size i (inr behind) = and_right (nat_le at i) (nat_lt i (at + size)) (le-ltb i (at + size) behind)

neither : (a b c : Bool) → a ≡ false → b ≡ false → c ≡ false → (a || b || c) ≡ false
neither a b c one two three = rw (one, two, three) refl

-- the only field is the data size
pub record HasSize (h : Shape) : Type 0 where
  pub inner : h.inner ≡ record { at = 8; size = 4 }
  pub outer : h.outer ≡ None
  pub side : h.side ≡ None

has_size : (order : Order) (size : ℕ) (n : Numbers) (h : Shape) → IsGiven order size n h → HasSize h
has_size order size n h from = record { inner = ap (λ (s : Shape). s.inner) from.shape; outer = ap (λ (s : Shape). s.outer) from.shape; side = ap (λ (s : Shape). s.side) from.shape }

beside : (h : Shape) (i : ℕ) → HasSize h → (i < 8) ⊎ (12 ≤ i) → is_in_fields h i ≡ false
beside h i has place =
    neither (is_in h.inner i) (is_in_some h.outer i) (is_in_some h.side i) (ap (λ (f : Field). is_in f i) has.inner ∙ outside 8 4 i place)
    (ap (λ (f : Option Field). is_in_some f i) has.outer) (ap (λ (f : Option Field). is_in_some f i) has.side)

kept_before : (h : Shape) (b x : List ℕ) → HasSize h → 24 ≤ h.start → KeepsHead h b x → SameAt x b 4 8
kept_before h b x has early keeps i from to = keeps i (omega arith) (beside h i has (inl to))

kept_behind : (h : Shape) (b x : List ℕ) → HasSize h → 24 ≤ h.start → KeepsHead h b x → SameAt x b 12 24
kept_behind h b x has early keeps i from to = keeps i (omega arith) (beside h i has (inr from))

-- ---- what a layout says of its file

pub record Known (order : Order) (b : List ℕ) (h : Shape) : Type 0 where
  pub from : Opens order b h
  pub size : HasSize h
  pub start : h.start ≡ (numbers_of order b).offset
  pub early : 24 ≤ h.start
  pub within : h.start ≤ length b
  pub declared : h.declared ≡ min (2 ^ 63 - 1) (numbers_of order b).bytes
  pub unknown : h.unknown_length ≡ is_unknown (numbers_of order b).bytes
  pub pieces : h.pieces ≡ []
  pub kind : h.kind ≡ kind_of order
  pub facts : IsStated order (numbers_of order b) h.params

pub known : (order : Order) (b : List ℕ) (h : Shape) → au_layout order b ≡ Ok h → Known order b h
known order b h is =
    let from : Opens order b h = opens order b h is in
    let shape = from.gives.shape in
    let start : h.start ≡ (numbers_of order b).offset = ap (λ (s : Shape). s.start) shape in
    record {
      from = from;
      size = has_size order (length b) (numbers_of order b) h from.gives;
      start = start;
      early = omega (arith, start, from.gives.placed.early);
      within = omega (arith, start, from.gives.placed.within);
      declared = ap (λ (s : Shape). s.declared) shape;
      unknown = ap (λ (s : Shape). s.unknown_length) shape;
      pieces = ap (λ (s : Shape). s.pieces) shape;
      kind = ap (λ (s : Shape). s.kind) shape;
      facts = stated order (numbers_of order b) h.params from.gives.params;
    }

-- a file with such numbers has their layout
pub laid : (order : Order) (x : List ℕ) (n : Numbers) (p : Parameters) → numbers_of order x ≡ n → 24 ≤ n.offset → n.offset ≤ length x → params_in order n ≡ Ok p → au_layout order x ≡ Ok (au_shape order (length x) n p)
laid order x n p same early within params =
    long_enough order x (omega (arith, early, within)) ∙ ap (layout_of order (length x)) same ∙ gives order (length x) n p (record { early = early; within = within }) params

not_all : (bytes : ℕ) → is_unknown bytes ≡ false → bytes ≡ 2 ^ 32 - 1 → ⊥
not_all bytes told all = let is : is_unknown bytes ≡ true = eq-eqb bytes (2 ^ 32 - 1) all in let no : true ≡ false = sym is ∙ told in cc

-- ---- the old count

same_held : (order : Order) (s s' : ℕ) (n : Numbers) (p : Parameters) → held s n ≡ held s' n → au_shape order s n p ≡ au_shape order s' n p
same_held order s s' n p same = ap (λ (k : ℕ). record (au_shape order s n p) { frames = k / block_align p.channels p.codec }) same

all_held : (size : ℕ) (n : Numbers) → is_unknown n.bytes ≡ false → AreWords n → n.offset + n.bytes ≤ size → held size n ≡ n.bytes
all_held size n told few there = held_known size n told ∙ omega (arith, few.offset, few.bytes, there)

pub old_count : (order : Order) → OldCountReadsBack (au order)
old_count order b x h says bytes free told hold keeps inner ends =
    let is : au_layout order b ≡ Ok h = said order b h says in
    let k : Known order b h = known order b h is in
    let n : Numbers = numbers_of order b in
    let few : AreWords n = words order b bytes in
    let field : SameAt x b 8 12 = in_field x b h.inner.at h.inner.size 8 12 (ap (λ (f : Field). f.at) k.size.inner) (ap (λ (f : Field). f.size) k.size.inner) inner in
    let size : number order x 8 4 ≡ number order b 8 4 = same_number order x b 8 8 12 field (omega arith) (omega arith) in
    let same : numbers_of order x ≡ n = same_numbers order x b (number order b 8 4) (kept_before h b x k.size k.early keeps) (kept_behind h b x k.size k.early keeps) size in
    let counted : is_unknown n.bytes ≡ false = sym k.unknown ∙ told in
    let in_x : held (length x) n ≡ n.bytes = all_held (length x) n counted few (omega (arith, hold.new, k.start, k.declared, few.bytes)) in
    let in_b : held (length b) n ≡ n.bytes = all_held (length b) n counted few (omega (arith, hold.old, k.start, k.declared, few.bytes)) in
    says_so order x h (laid order x n h.params same k.from.gives.placed.early (omega (arith, hold.new, k.start)) k.from.gives.params
    ∙ ap (λ (s : Shape). Ok s) (same_held order (length x) (length b) n h.params (in_x ∙ sym in_b) ∙ sym k.from.gives.shape))
  where
    in_field : (x b : List ℕ) (at size from to : ℕ) → at ≡ from → size ≡ to - from → HasFieldOf x b at size → SameAt x b from to
    in_field x b at size from to is long has i after before =
        let place : at + (i - from) ≡ i = omega (arith, is) in
        let there : get_or x (at + (i - from)) 0 ≡ get_or b (at + (i - from)) 0 = has (i - from) (omega (arith, long)) in
        rw place at there

-- ---- the new count

room_is : (order : Order) (h : Shape) → h.kind ≡ kind_of order → room h ≡ 2 ^ 32 - 2
room_is Big h is = rw is refl
room_is Little h is = rw is refl

value_is : (order : Order) (h : Shape) (n : ℕ) → h.kind ≡ kind_of order → inner_value h n ≡ bytes_of order 4 (data_bytes h.params n)
unfolding inner_value
value_is Big h n is = rw is refl
value_is Little h n is = rw is refl

counted : (order : Order) (s s' : ℕ) (nb : Numbers) (d m : ℕ) (p : Parameters) (h : Shape) → h ≡ au_shape order s nb p → held s' (record nb { bytes = d }) / block_align p.channels p.codec ≡ m → d < 2 ^ 32
    → is_unknown d ≡ is_unknown nb.bytes → au_shape order s' (record nb { bytes = d }) p ≡ record h { frames = m; declared = d }
counted order s s' nb d m p h shape frames few told =
    let t : Shape = au_shape order s' (record nb { bytes = d }) p in
    let declared : min (2 ^ 63 - 1) d ≡ d = omega (arith, few) in
    ap (λ (k : ℕ). record t { frames = k }) frames ∙ ap (λ (k : ℕ). record t { frames = m; declared = k }) declared
    ∙ ap (λ (u : Bool). record t { frames = m; declared = d; unknown_length = u }) told ∙ ap (λ (s : Shape). record s { frames = m; declared = d }) (sym shape)

pub new_count : (order : Order) → NewCountReadsBack (au order)
new_count order b x h m may keeps inner long ends =
    let is : au_layout order b ≡ Ok h = said order b h may.says in
    let k : Known order b h = known order b h is in
    let nb : Numbers = numbers_of order b in
    let few : AreWords nb = words order b may.bytes in
    let d : ℕ = data_bytes h.params m in
    let fixed : AreFixed h.params = are_fixed order h.params k.facts.good k.facts.fits in
    let told : is_unknown nb.bytes ≡ false = sym k.unknown ∙ may.known in
    let in_room : data_bytes h.params m ≤ 2 ^ 32 - 2 = omega (arith, may.room.in_room, room_is order h k.kind, k.declared, few.bytes, not_all nb.bytes told) in
    let has : HasAt x 8 (bytes_of order 4 (data_bytes h.params m)) =
    subst (λ (at : ℕ). HasAt x at (bytes_of order 4 (data_bytes h.params m))) (ap (λ (f : Field). f.at) k.size.inner) (subst (λ (v : List ℕ). HasAt x h.inner.at v) (value_is order h m k.kind) inner) in
    let read : number order x 8 4 ≡ data_bytes h.params m = has_number order x 8 (data_bytes h.params m) has (omega (arith, in_room)) in
    let same : numbers_of order x ≡ record nb { bytes = data_bytes h.params m } = same_numbers order x b (data_bytes h.params m) (kept_before h b x k.size k.early keeps) (kept_behind h b x k.size k.early keeps) read in
    let counts : is_unknown (data_bytes h.params m) ≡ false = ne_eqb (data_bytes h.params m) (2 ^ 32 - 1) (λ all. omega (arith, in_room, all)) in
    let there : h.start + data_bytes h.params m ≤ length x = omega (arith, long) in
    let all : held (length x) (record nb { bytes = data_bytes h.params m }) ≡ data_bytes h.params m =
    all_held (length x) (record nb { bytes = data_bytes h.params m }) counts (record { offset = few.offset; bytes = omega (arith, in_room) }) (omega (arith, there, k.start)) in
    let frames : held (length x) (record nb { bytes = data_bytes h.params m }) / block_align h.params.channels h.params.codec ≡ m =
    ap (λ (n : ℕ). n / block_align h.params.channels h.params.codec) (all ∙ fixed_bytes h.params m fixed.adpcm) ∙ blocks_of m (block_align h.params.channels h.params.codec) fixed.some in
    says_so order x (counted_shape h m) (laid order x (record nb { bytes = data_bytes h.params m }) h.params same k.from.gives.placed.early (omega (arith, there, k.start)) k.from.gives.params
    ∙ ap (λ (s : Shape). Ok s) (counted order (length b) (length x) nb (data_bytes h.params m) m h.params h k.from.gives.shape frames (omega (arith, in_room)) (counts ∙ sym told)))

-- ---- all but the data

pub outside_data : (order : Order) → SameOutsideDataReadsBack (au order)
outside_data order b x h is good long same =
    let k : Known order b h = known order b h is in
    let all : SameAt x b 4 24 = λ i from to. same i (inl (omega (arith, k.early))) in
    let size : number order x 8 4 ≡ number order b 8 4 = same_number order x b 8 4 24 all (omega arith) (omega arith) in
    let numbers : numbers_of order x ≡ numbers_of order b = same_numbers order x b (number order b 8 4) (λ i from to. all i from (omega arith)) (λ i from to. all i (omega arith) to) size in
    laid order x (numbers_of order b) h.params numbers k.from.gives.placed.early (omega (arith, long, k.start, k.within)) k.from.gives.params
    ∙ ap (λ (s : ℕ). Ok (au_shape order s (numbers_of order b) h.params)) long ∙ ap (λ (s : Shape). Ok s) (sym k.from.gives.shape)

pub voice : (order : Order) → VoiceReadsBack (au order)
voice order b x h says voc = absurd (not_voc order h.kind (kind_is order b h (said order b h says)) voc)

pub declares : (order : Order) → VoiceDeclares (au order)
declares order b h is voc = absurd (not_voc order h.kind (kind_is order b h is) voc)

-- ---- ends

pub ends_in_order : (order : Order) → EndsAreInOrder (au order)
ends_in_order order b h n says = (λ few. omega (arith, few), λ few. omega (arith, few))

pub closes : (order : Order) (h : Shape) → ClosesNear (au order) h
closes order h = record { few = λ n. omega arith; ordered = λ n m few. omega (arith, few) }

-- ---- fields

pub apart : (order : Order) (b : List ℕ) (h : Shape) → Says (au order) b h → FieldsApart h
apart order b h says =
    let k : Known order b h = known order b h (said order b h says) in
    record { outer = rw k.size.outer tt; side = rw k.size.side tt; others = rw k.size.outer tt; whole = rw k.size.outer tt }

pub fill : (order : Order) (b : List ℕ) (h : Shape) (n : ℕ) → Says (au order) b h → FillsFields (au order) h n
fill order b h n says =
    let k : Known order b h = known order b h (said order b h says) in
    record {
      inner = ap length (value_is order h n k.kind) ∙ length-bytes_of order 4 (data_bytes h.params n) ∙ sym (ap (λ (f : Field). f.size) k.size.inner);
      outer = rw k.size.outer tt;
      side = rw k.size.side tt;
    }

fits_nothing : (field : Option Field) → FitsField field []
fits_nothing None = tt
fits_nothing (Some field) = omega arith

size_is : (order : Order) (h : Shape) → h.kind ≡ kind_of order → IsTrue (is_inner_size h.kind h.params.codec h.inner.size) → h.inner.size ≡ 4
size_is Big h is rule = let four : (h.inner.size == 4) ≡ true = rw is at rule in eqb-true h.inner.size 4 four
size_is Little h is rule = let four : (h.inner.size == 4) ≡ true = rw is at rule in eqb-true h.inner.size 4 four

pub fits : (order : Order) (h : Shape) (n : ℕ) → h.kind ≡ kind_of order → KeepsRule h → FitsFields (au order) h n
fits order h n kind rule =
    let four : length (inner_value h n) ≡ 4 = ap length (value_is order h n kind) ∙ length-bytes_of order 4 (data_bytes h.params n) in
    record {
      inner = omega (arith, four, size_is order h kind rule.inner_size);
      few_inner = omega (arith, four);
      outer = fits_nothing h.outer;
      few_outer = omega arith;
      side = fits_nothing h.side;
      few_side = omega arith;
    }

pub same_values : (order : Order) (h : Shape) (frames declared : ℕ) (trailing : Bool) (n : ℕ) → SameValues (au order) h (record h { frames = frames; declared = declared; trailing = trailing }) n
unfolding inner_value
same_values order h frames declared trailing n = record { inner = refl; outer = refl; side = refl; closing = refl }

no_bytes : All IsByte []
no_bytes k d lt = absurd (omega (arith, lt))

pub are_bytes : (order : Order) (h : Shape) (n : ℕ) → AreBytes (au order) h n
unfolding inner_value
are_bytes order h n = record { inner = (bytes_are_bytes (order_of h.kind) 4 (data_bytes h.params n)).1; outer = no_bytes; side = no_bytes; closing = no_bytes }

no_pieces : (x b : List ℕ) → All (SameBody x b) []
no_pieces x b k d lt = absurd (omega (arith, lt))

pub pieces_stay : (order : Order) → PiecesStay (au order)
pieces_stay order b x h is good within keeps goes_on =
    let k : Known order b h = known order b h is in
    rw k.pieces (no_pieces x b)

-- ---- where a layout lies

mark_is : (order : Order) (i : ℕ) → is_mark (kind_of order) i ≡ true → i < 4
mark_is Big i is = ltb-true i 4 is
mark_is Little i is = ltb-true i 4 is

pub marks : (order : Order) (b : List ℕ) (h : Shape) → au_layout order b ≡ Ok h → KeepsMarks (kind_of order) h
marks order b h is =
    let k : Known order b h = known order b h is in
    record { is_kind = k.kind; marks = λ i mark. let early : i < 4 = mark_is order i mark in (omega (arith, early, k.early), beside h i k.size (inl (omega (arith, early)))) }

by_shape : (order : Order) (b : List ℕ) (n : Numbers) (p : Parameters) → AreParams p → IsPlaced (length b) n.offset → LiesWell order (length b) n p → LiesIn b (au_shape order (length b) n p)
by_shape order b n p good place well = record { params = good; rule = well.rule; within = place.within; held = well.held; room_ends = well.room_ends; declared = well.declared }

pub lies : (order : Order) (b : List ℕ) (h : Shape) → All IsByte b → au_layout order b ≡ Ok h → LiesIn b h
lies order b h bytes is =
    let k : Known order b h = known order b h is in
    let n : Numbers = numbers_of order b in
    subst (λ (s : Shape). LiesIn b s) (sym k.from.gives.shape)
    (by_shape order b n h.params k.facts.good k.from.gives.placed (lies_well order (length b) n h.params k.facts.good k.facts.fits k.from.gives.placed (words order b bytes)))
