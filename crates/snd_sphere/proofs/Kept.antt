-- SPHERE files keep the laws of containers.
use Rattle.std.proofs.Common.{◌≡◌, ◌⊎◌, ℕ, ◌+◌, ◌-◌, ◌*◌, ◌/◌, ◌^◌, ◌<◌, ◌≤◌, true, false, ◌&&◌, List, [], All, Option, None, Some, Result, Ok, Err, refl, sym, ap, ◌∙◌, inl, inr, length, take, arith}
use Rattle.std.proofs.lemmas.Bool.{and_parts, cases_Bool, cases_lt, le-leb, le-ltb, leb-true, lt-leb, ltb-true}
use Rattle.std.proofs.lemmas.List.{ext_get_or, get_or-take, length-take, places}
use Rattle.std.proofs.lemmas.List.Elements.{All-nil}
use Rattle.std.specs.Prelude.{get_or, min, nat_le, nat_lt}
use Rattle.snd_disk.specs.Runs.{HasAt, HasFieldOf}
use Rattle.snd_fields.specs.Field.{with_field}
use Rattle.snd_layout.specs.Container.{FieldsApart, FillsFields, FitsField, FitsFields, HoldDeclared, KeepsHead, KeepsMarks, LiesIn, MayBeCounted, SameBody, Says, counted_shape, is_in, is_in_fields}
use Rattle.snd_layout.specs.Blocks.{block_align}
use Rattle.snd_layout.specs.Fit.{is_sphere_codec}
use Rattle.snd_layout.specs.Params.{AreParams, Parameters, data_bytes}
use Rattle.snd_layout.specs.Shape.{KeepsRule, Shape, end, room}
use Rattle.snd_layout.specs.declared.field.Field.{Field}
use Rattle.snd_layout.specs.declared.kind.Kind.TheVariants.{Sphere}
use Rattle.snd_layout.specs.declared.refusal.OpenRefusal.{OpenRefusal}
use Rattle.snd_sphere.specs.Container.{sphere}
use Rattle.snd_sphere.specs.declared.heading.Heading.{Heading}
use Rattle.snd_sphere.specs.declared.stated.Stated.{Stated}
use Rattle.snd_sphere.specs.Layout.{count_of, declared_of, heading_of, held, layout_with, params_of, shape_with, sphere_layout, sphere_shape}
use Rattle.snd_sphere.specs.Values.{inner_value, lowest_digits}
use Rattle.snd_sphere.proofs.Counts.{counted_so, digits_few, heading_stays, stands_behind, stands_within}
use Rattle.snd_sphere.proofs.Digits.{length-lowest, no_feeds, said}
use Rattle.snd_sphere.proofs.Openings.{short, whole}
use Rattle.snd_layout.proofs.Codecs.{blocks_of, whole_blocks}
use Rattle.snd_sphere.proofs.Sounds.{align_some, bytes_are, few_frames, frames_few, sound_good}

-- what is read of a file that has a layout
pub record Opens (b : List ℕ) (h : Shape) : Type 0 where
  pub heading : Heading
  pub count : Stated
  pub params : Parameters
  pub long : 1024 ≤ length b
  pub headed : heading_of (take 1024 b) ≡ Ok heading
  pub counted : count_of (take 1024 b) ≡ Ok (Some count)
  pub sound : params_of heading ≡ Ok params
  pub shape : h ≡ sphere_shape (length b) params count

with_sound : (b : List ℕ) (h : Shape) (g : Heading) (count : Stated) (sound : Result Parameters OpenRefusal) → 1024 ≤ length b → heading_of (take 1024 b) ≡ Ok g → count_of (take 1024 b) ≡ Ok (Some count)
    → params_of g ≡ sound → shape_with (length b) (Some count) sound ≡ Ok h → Opens b h
with_sound b h g count (Err refusal) long headed counted sounds told = absurd (cc)
with_sound b h g count (Ok p) long headed counted sounds told =
    record { heading = g; count = count; params = p; long = long; headed = headed; counted = counted; sound = sounds; shape = cc }

with_parts : (b : List ℕ) (h : Shape) (g : Result Heading OpenRefusal) (count : Result (Option Stated) OpenRefusal) → 1024 ≤ length b → heading_of (take 1024 b) ≡ g → count_of (take 1024 b) ≡ count
    → layout_with (length b) g count ≡ Ok h → Opens b h
with_parts b h (Err refusal) count long headed counted told = absurd (cc)
with_parts b h (Ok g) (Err refusal) long headed counted told = absurd (cc)
with_parts b h (Ok g) (Ok None) long headed counted told = absurd (cc)
with_parts b h (Ok g) (Ok (Some count)) long headed counted told = with_sound b h g count (params_of g) long headed counted refl told

pub opens : (b : List ℕ) (h : Shape) → sphere_layout b ≡ Ok h → Opens b h
opens b h told = elim (cases_lt (length b) 1024) [
  | inl few ↦ absurd (let e = short b few in cc)
  | inr long ↦ with_parts b h (heading_of (take 1024 b)) (count_of (take 1024 b)) long refl refl (sym (whole b long) ∙ told)
]

-- a file with such a heading and such a count
pub reads : (x : List ℕ) (g : Heading) (count : Stated) (p : Parameters) → 1024 ≤ length x → heading_of (take 1024 x) ≡ Ok g → count_of (take 1024 x) ≡ Ok (Some count) → params_of g ≡ Ok p
    → sphere_layout x ≡ Ok (sphere_shape (length x) p count)
reads x g count p long headed counted sound =
    whole x long ∙ ap (λ (k : Result Heading OpenRefusal). layout_with (length x) k (count_of (take 1024 x))) headed
    ∙ ap (λ (k : Result (Option Stated) OpenRefusal). layout_with (length x) (Ok g) k) counted ∙ ap (shape_with (length x) (Some count)) sound

-- ---- headers

same_front : (n : ℕ) (b x : List ℕ) → n ≤ length b → n ≤ length x → ((i : ℕ) → i < n → get_or x i 0 ≡ get_or b i 0) → take n x ≡ take n b
same_front n b x one two same =
    ext_get_or 0 (take n x) (take n b) (omega (arith, length-take n x, length-take n b)) (λ i lt.
    let few : i < n = omega (arith, lt, length-take n x) in
    get_or-take n x i 0 few ∙ same i few ∙ sym (get_or-take n b i 0 few))

field_before : (t v : List ℕ) (at i : ℕ) → i < at → at ≤ length t → get_or (with_field t at v) i 0 ≡ get_or t i 0
field_before t v at i lt within = grind (arith, places)

field_in : (t v : List ℕ) (at j : ℕ) → j < length v → at ≤ length t → get_or (with_field t at v) (at + j) 0 ≡ get_or v j 0
field_in t v at j lt within = grind (arith, places)

field_behind : (t v : List ℕ) (at i : ℕ) → at + length v ≤ i → at + length v ≤ length t → get_or (with_field t at v) i 0 ≡ get_or t i 0
field_behind t v at i le within = grind (arith, places)

field_size : (t v : List ℕ) (at : ℕ) → at + length v ≤ length t → length (with_field t at v) ≡ length t
field_size t v at within = grind (arith, places)

patched : (n : ℕ) (b x v : List ℕ) (at : ℕ) → n ≤ length b → n ≤ length x → at + length v ≤ n
    → ((i : ℕ) → i < n → (i < at) ⊎ (at + length v ≤ i) → get_or x i 0 ≡ get_or b i 0) → ((j : ℕ) → j < length v → get_or x (at + j) 0 ≡ get_or v j 0) → take n x ≡ with_field (take n b) at v
patched n b x v at one two within beside inside =
    let size : length (take n b) ≡ n = omega (arith, length-take n b, one) in
    ext_get_or 0 (take n x) (with_field (take n b) at v) (omega (arith, length-take n x, size, field_size (take n b) v at (omega (arith, size, within)))) (λ i lt.
    let few : i < n = omega (arith, lt, length-take n x) in
    get_or-take n x i 0 few ∙ elim (cases_lt i at) [
      | inl before ↦ beside i few (inl before) ∙ sym (get_or-take n b i 0 few) ∙ sym (field_before (take n b) v at i before (omega (arith, size, within)))
      | inr from ↦ elim (cases_lt i (at + length v)) [
        | inl in_it ↦
            let place : at + (i - at) ≡ i = omega (arith, from) in
            ap (λ (k : ℕ). get_or x k 0) (sym place) ∙ inside (i - at) (omega (arith, in_it, from)) ∙ sym (field_in (take n b) v at (i - at) (omega (arith, in_it, from)) (omega (arith, size, within)))
            ∙ ap (λ (k : ℕ). get_or (with_field (take n b) at v) k 0) place
        | inr behind ↦ beside i few (inr behind) ∙ sym (get_or-take n b i 0 few) ∙ sym (field_behind (take n b) v at i behind (omega (arith, size, within)))
      ]
    ])

outside : (field : Field) (i : ℕ) → (i < field.at) ⊎ (field.at + field.size ≤ i) → is_in field i ≡ false
outside field i (inl lt) = let e : nat_le field.at i ≡ false = lt-leb field.at i lt in rw e refl
outside field i (inr le) = let e : nat_lt i (field.at + field.size) ≡ false = le-ltb i (field.at + field.size) le in elim (cases_Bool (nat_le field.at i)) [ inl is ↦ rw (is, e) refl | inr other ↦ rw other refl ]

not_field : (h : Shape) (i : ℕ) → h.outer ≡ None → h.side ≡ None → (i < h.inner.at) ⊎ (h.inner.at + h.inner.size ≤ i) → is_in_fields h i ≡ false
not_field h i outer side out = let e : is_in h.inner i ≡ false = outside h.inner i out in rw (outer, side, e) refl

same_field : (h : Shape) (b x : List ℕ) → h.outer ≡ None → h.side ≡ None → KeepsHead h b x → HasFieldOf x b h.inner.at h.inner.size → (i : ℕ) → i < h.start → get_or x i 0 ≡ get_or b i 0
same_field h b x outer side keeps has i lt = elim (cases_lt i h.inner.at) [
  | inl before ↦ keeps i lt (not_field h i outer side (inl before))
  | inr from ↦ elim (cases_lt i (h.inner.at + h.inner.size)) [
    | inl in_it ↦
        let place : h.inner.at + (i - h.inner.at) ≡ i = omega (arith, from) in
        ap (λ (k : ℕ). get_or x k 0) (sym place) ∙ has (i - h.inner.at) (omega (arith, in_it, from)) ∙ ap (λ (k : ℕ). get_or b k 0) place
    | inr behind ↦ keeps i lt (not_field h i outer side (inr behind))
  ]
]

-- ---- the laws

-- a layout that is told with one value of trailing
module _ (b : List ℕ) (h : Shape) (says : Says sphere b h) where
  own : Opens b (record h { trailing = says.goes_on })
  own = opens b (record h { trailing = says.goes_on }) says.told

  no_outer : h.outer ≡ None
  no_outer = ap (λ (s : Shape). s.outer) own.shape

  no_side : h.side ≡ None
  no_side = ap (λ (s : Shape). s.side) own.shape

  starts : h.start ≡ 1024
  starts = ap (λ (s : Shape). s.start) own.shape

  goes_on : says.goes_on ≡ false
  goes_on = ap (λ (s : Shape). s.trailing) own.shape

  inner_size : h.inner.size ≡ own.count.size
  inner_size = ap (λ (s : Shape). s.inner.size) own.shape

  inner_at : h.inner.at ≡ own.count.at
  inner_at = ap (λ (s : Shape). s.inner.at) own.shape

  is_declared : h.declared ≡ declared_of own.params own.count
  is_declared = ap (λ (s : Shape). s.declared) own.shape

  are_params : h.params ≡ own.params
  are_params = ap (λ (s : Shape). s.params) own.shape

  pub apart : FieldsApart h
  apart = record { outer = rw no_outer tt; side = rw no_side tt; others = rw no_outer tt; whole = rw no_outer tt }

  pub fill : (n : ℕ) → FillsFields sphere h n
  unfolding inner_value
  fill n = record { inner = length-lowest h.inner.size n; outer = rw no_outer tt; side = rw no_side tt }

  pub old : (x : List ℕ) → HoldDeclared h b x → KeepsHead h b x → HasFieldOf x b h.inner.at h.inner.size → Says sphere x h
  old x hold keeps has =
      let front : take 1024 x ≡ take 1024 b = same_front 1024 b x own.long (omega (arith, hold.new, starts)) (λ i lt. same_field h b x no_outer no_side keeps has i (omega (arith, starts, lt))) in
      let told : sphere_layout x ≡ Ok (sphere_shape (length x) own.params own.count) =
      reads x own.heading own.count own.params (omega (arith, hold.new, starts)) (ap heading_of front ∙ own.headed) (ap count_of front ∙ own.counted) own.sound in
      let bytes : held (length x) (declared_of own.params own.count) ≡ held (length b) (declared_of own.params own.count) = omega (arith, hold.new, hold.old, starts, is_declared) in
      record {
        goes_on = says.goes_on;
        told = told ∙ ap (λ (n : ℕ). Ok (record (sphere_shape (length b) own.params own.count) { frames = n / block_align own.params.channels own.params.codec })) bytes ∙ ap (λ (s : Shape). Ok s) (sym own.shape);
        same = says.same;
      }

  pub new : (x : List ℕ) (n : ℕ) → MayBeCounted sphere b h n → KeepsHead h b x → HasAt x h.inner.at (inner_value h n) → end h n ≤ length x → Says sphere x (counted_shape h n)
  unfolding inner_value
  new x n may keeps has there =
      let p = own.params in
      let s = own.count in
      let good = sound_good own.heading p own.sound in
      let some : 1 ≤ block_align p.channels p.codec = align_some p good.0 good.1 in
      let few = digits_few (take 1024 b) s own.counted in
      let within = stands_within (take 1024 b) s own.counted in
      let size : length (lowest_digits h.inner.size n) ≡ s.size = length-lowest h.inner.size n ∙ inner_size in
      let bytes : data_bytes h.params n ≡ n * block_align p.channels p.codec = ap (λ (q : Parameters). data_bytes q n) are_params ∙ bytes_are p n good.1 in
      let rooms : room h ≡ min ((10 ^ s.size - 1) * block_align p.channels p.codec) (2 ^ 62 - 1024) = ap room own.shape in
      let fits : n < 10 ^ s.size = few_frames n (block_align p.channels p.codec) (10 ^ s.size) (2 ^ 62 - 1024) s.value h.declared some (omega (arith, bytes, rooms, may.room.in_room)) (omega (arith, is_declared)) few.2 in
      let near : n * block_align p.channels p.codec < 2 ^ 63 = omega (arith, bytes, may.room.on_disk) in
      let number = said s.size n few.0 few.1 fits (omega (arith, near, frames_few n (block_align p.channels p.codec) some)) in
      let long : 1024 ≤ length x = omega (arith, there, starts) in
      let front : take 1024 x ≡ with_field (take 1024 b) h.inner.at (lowest_digits h.inner.size n) =
      patched 1024 b x (lowest_digits h.inner.size n) h.inner.at own.long long (omega (arith, size, inner_at, within, length-take 1024 b))
      (λ i lt out. keeps i (omega (arith, starts, lt)) (not_field h i no_outer no_side (rw (length-lowest h.inner.size n) at out))) has in
      let front_is : take 1024 x ≡ with_field (take 1024 b) s.at (lowest_digits s.size n) = front ∙ ap (λ (k : ℕ). with_field (take 1024 b) k (lowest_digits h.inner.size n)) inner_at ∙ ap (λ (k : ℕ). with_field (take 1024 b) s.at (lowest_digits k n)) inner_size in
      let digits = length-lowest s.size n in
      let headed : heading_of (take 1024 x) ≡ Ok own.heading = ap heading_of front_is ∙ heading_stays (take 1024 b) s own.counted (lowest_digits s.size n) (no_feeds s.size n) digits ∙ own.headed in
      let counted : count_of (take 1024 x) ≡ Ok (Some (record { value = n; at = s.at; size = s.size })) = ap count_of front_is ∙ counted_so (take 1024 b) s own.counted (lowest_digits s.size n) (no_feeds s.size n) digits n number in
      let told : sphere_layout x ≡ Ok (sphere_shape (length x) p (record { value = n; at = s.at; size = s.size })) = reads x own.heading (record { value = n; at = s.at; size = s.size }) p long headed counted own.sound in
      let declares : declared_of p (record { value = n; at = s.at; size = s.size }) ≡ data_bytes h.params n = omega (arith, bytes, near) in
      let holds : held (length x) (declared_of p (record { value = n; at = s.at; size = s.size })) ≡ n * block_align p.channels p.codec = omega (arith, declares, bytes, near, there, starts, may.on_disk) in
      let frames : held (length x) (declared_of p (record { value = n; at = s.at; size = s.size })) / block_align p.channels p.codec ≡ n = ap (λ (k : ℕ). k / block_align p.channels p.codec) holds ∙ blocks_of n (block_align p.channels p.codec) some in
      record {
        goes_on = false;
        told = told ∙ ap (λ (k : ℕ). Ok (record (sphere_shape (length b) p s) { frames = k; declared = declared_of p (record { value = n; at = s.at; size = s.size }) })) frames
            ∙ ap (λ (k : ℕ). Ok (record (sphere_shape (length b) p s) { frames = n; declared = k })) declares
            ∙ ap (λ (S : Shape). Ok (record S { frames = n; declared = data_bytes h.params n; trailing = false })) (sym own.shape);
        same = inr (sym may.free);
      }

shape_lies : (b : List ℕ) (p : Parameters) (s : Stated) → 1024 ≤ length b → AreParams p → is_sphere_codec p.codec ≡ true → 1 ≤ s.size → s.size ≤ 18 → s.at + s.size ≤ 1024 → LiesIn b (sphere_shape (length b) p s)
shape_lies b p s long good fits some few within =
    let least : nat_le 1 s.size ≡ true = le-leb 1 s.size some in
    let most : nat_le s.size 18 ≡ true = le-leb s.size 18 few in
    let align = align_some p good fits in
    let bytes : data_bytes p (held (length b) (declared_of p s) / block_align p.channels p.codec) ≤ held (length b) (declared_of p s) =
    omega (arith, bytes_are p (held (length b) (declared_of p s) / block_align p.channels p.codec) fits, whole_blocks (held (length b) (declared_of p s)) (block_align p.channels p.codec)) in
    record {
      params = good;
      rule = record {
        fits = rw fits refl;
        inner_size = rw (least, most) refl;
        outer_size = refl;
        side_size = refl;
        inner_end = within;
        outer_end = tt;
        side_end = tt;
        sound_start = refl;
        pieces_placed = All-nil _;
        data_end = omega (arith, bytes);
        in_room = λ known. omega (arith, bytes);
        declared_fits = omega arith;
        reserved = tt;
      };
      within = long;
      held = omega (arith, bytes, long);
      room_ends = omega arith;
      declared = λ known. omega (arith, bytes);
    }

no_bytes : (field : Option Field) → FitsField field []
no_bytes None = tt
no_bytes (Some f) = omega arith

pub marked : (b : List ℕ) (h : Shape) → sphere_layout b ≡ Ok h → KeepsMarks Sphere h
marked b h told =
    let o = opens b h told in
    let starts : h.start ≡ 1024 = ap (λ (s : Shape). s.start) o.shape in
    let at : h.inner.at ≡ o.count.at = ap (λ (s : Shape). s.inner.at) o.shape in
    record {
      is_kind = ap (λ (s : Shape). s.kind) o.shape;
      marks = λ i is.
          let early : i < 8 = ltb-true i 8 is in (
            omega (arith, early, starts),
            not_field h i (ap (λ (s : Shape). s.outer) o.shape) (ap (λ (s : Shape). s.side) o.shape) (inl (omega (arith, early, at, stands_behind (take 1024 b) o.count o.counted))),
          );
    }

pub lie : (b : List ℕ) (h : Shape) → sphere_layout b ≡ Ok h → LiesIn b h
lie b h told =
    let o = opens b h told in
    let good = sound_good o.heading o.params o.sound in
    let few = digits_few (take 1024 b) o.count o.counted in
    let within = stands_within (take 1024 b) o.count o.counted in
    rw o.shape (shape_lies b o.params o.count o.long good.0 good.1 few.0 few.1 (omega (arith, within, length-take 1024 b)))

pub outside_data : (b x : List ℕ) (h : Shape) → sphere_layout b ≡ Ok h → length x ≡ length b → ((i : ℕ) → (i < h.start) ⊎ (end h h.frames ≤ i) → get_or x i 0 ≡ get_or b i 0) → sphere_layout x ≡ Ok h
outside_data b x h told size same =
    let o = opens b h told in
    let starts : h.start ≡ 1024 = ap (λ (s : Shape). s.start) o.shape in
    let front : take 1024 x ≡ take 1024 b = same_front 1024 b x o.long (omega (arith, size, o.long)) (λ i lt. same i (inl (omega (arith, starts, lt)))) in
    reads x o.heading o.count o.params (omega (arith, size, o.long)) (ap heading_of front ∙ o.headed) (ap count_of front ∙ o.counted) o.sound
    ∙ ap (λ (n : ℕ). Ok (sphere_shape n o.params o.count)) size ∙ ap (λ (s : Shape). Ok s) (sym o.shape)

pub fitting : (h : Shape) (n : ℕ) → h.kind ≡ Sphere → KeepsRule h → FitsFields sphere h n
unfolding inner_value
fitting h n kind rule =
    let sizes : (nat_le 1 h.inner.size && nat_le h.inner.size 18) ≡ true = (let r = rule.inner_size in rw kind at r) in
    let most = leb-true h.inner.size 18 (and_parts (nat_le 1 h.inner.size) (nat_le h.inner.size 18) sizes).1 in
    record {
      inner = omega (arith, length-lowest h.inner.size n);
      few_inner = omega (arith, length-lowest h.inner.size n, most);
      outer = no_bytes h.outer;
      few_outer = omega arith;
      side = no_bytes h.side;
      few_side = omega arith;
    }

pub no_pieces : (b x : List ℕ) (h : Shape) → sphere_layout b ≡ Ok h → All (SameBody x b) h.pieces
no_pieces b x h told = rw (ap (λ (s : Shape). s.pieces) (opens b h told).shape) (All-nil (SameBody x b))
