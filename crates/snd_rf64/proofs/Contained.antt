-- An RF64 file keeps the laws of all containers.
use Rattle.std.proofs.Common.{◌≡◌, ◌⊎◌, ◌∙◌, ap, sym, subst, refl, inl, inr, ℕ, ◌+◌, ◌-◌, ◌%◌, ◌<◌, ◌≤◌, Bool, true, List, All, Option, None, Some, Ok, length, arith}
use Rattle.std.proofs.lemmas.Bool.{eqb-true}
use Rattle.std.proofs.lemmas.List.{length-replicate}
use Rattle.std.proofs.lemmas.List.Elements.{All-replicate}
use Rattle.std.specs.Prelude.{IfSome}
use Rattle.snd_chunks.proofs.Public.{same_number_at}
use Rattle.snd_chunks.specs.Chunks.{padded_end}
use Rattle.snd_disk.specs.Runs.{HasAt, HasFieldOf}
use Rattle.snd_fields.proofs.Numbers.{bytes_are_bytes, length-bytes_of}
use Rattle.snd_fields.specs.Field.{number}
use Rattle.snd_fields.specs.Laws.{IsByte}
use Rattle.snd_fields.specs.declared.field.Order.TheVariants.{Little}
use Rattle.snd_layout.specs.Container.{AreBytes, ClosesNear, EndsAreInOrder, FieldsApart, FillsFields, FitsField, FitsFields, KeepsLaws, KeepsMarks, NewCountReadsBack, OldCountReadsBack, OuterIsWithin, OuterReaches, OuterStops, SameOutsideDataReadsBack, SameValues, Says, VoiceDeclares, VoiceReadsBack, closed_end, counted_shape, is_mark}
use Rattle.snd_layout.specs.Params.{data_bytes}
use Rattle.snd_layout.specs.Shape.{KeepsRule, Shape, end, has_size, is_inner_size, is_outer_size, is_side_size}
use Rattle.snd_layout.specs.declared.field.Field.{Field}
use Rattle.snd_layout.specs.declared.kind.Kind.{Kind}
use Rattle.snd_layout.specs.declared.kind.Kind.TheVariants.{Rf64, Voc}
use Rattle.snd_wave.proofs.Public.{in_field}
use Rattle.snd_rf64.specs.Container.{rf64}
use Rattle.snd_rf64.specs.Layout.{rf64_front, rf64_layout}
use Rattle.snd_rf64.specs.declared.sizes.Sizes.{Sizes}
use Rattle.snd_rf64.specs.Values.{closing, inner_value, outer_value, side_value}
use Rattle.snd_rf64.proofs.Counted.{free_ends, long_least, new_count, old_count, same_outside}
use Rattle.snd_rf64.proofs.KeptPieces.{pieces_stay}
use Rattle.snd_rf64.proofs.Lies.{lies_in}
use Rattle.snd_rf64.proofs.NewFiles.{is_new}
use Rattle.snd_rf64.proofs.Opens.{Begins, Opens, TellsSizes, begins, opens, tells}
use Rattle.snd_rf64.proofs.Stays.{Stays, no_field, stays}

-- ---- what a file says

kind_is : (b : List ℕ) (h : Shape) → rf64_layout b ≡ Ok h → h.kind ≡ Rf64
kind_is b h is = ap (λ (s : Shape). s.kind) (opens b h is).shape

told_as : (b : List ℕ) (h : Shape) (goes_on : Bool) → rf64_layout b ≡ Ok (record h { trailing = goes_on }) → (h.kind ≡ Voc) ⊎ (goes_on ≡ h.trailing) → rf64_layout b ≡ Ok h
told_as b h goes_on told (inl voc) = absurd (let no : Rf64 ≡ Voc = sym (kind_is b (record h { trailing = goes_on }) told) ∙ voc in cc)
told_as b h goes_on told (inr same) = subst (λ (t : Bool). rf64_layout b ≡ Ok (record h { trailing = t })) same told

told : (b : List ℕ) (h : Shape) → Says rf64 b h → rf64_layout b ≡ Ok h
told b h says = told_as b h says.goes_on says.told says.same

says : (b : List ℕ) (h : Shape) → rf64_layout b ≡ Ok h → Says rf64 b h
says b h is = record { goes_on = h.trailing; told = is; same = inr refl }

-- the places of the head
record Stands (b : List ℕ) (h : Shape) : Type 0 where
  late : 56 ≤ h.start
  within : h.start ≤ length b
  inner : h.inner ≡ record { at = 28; size = 8 }
  outer : h.outer ≡ Some (record { at = 20; size = 8 })
  side : h.side ≡ Some (record { at = 36; size = 8 })

stands : (b : List ℕ) (h : Shape) → rf64_layout b ≡ Ok h → Stands b h
stands b h is =
    let from : Opens b h = opens b h is in
    let tell : TellsSizes b from.sizes = tells b from.sizes from.told in
    let begin : Begins b from.sizes.next from.sound = begins b from.sizes.next from.sound from.sound_is in
    rw from.shape (record { late = omega (arith, begin.least, tell.behind); within = begin.within; inner = refl; outer = refl; side = refl })

-- the end of what closes the data
pub closed_by : (h : Shape) (n : ℕ) → closed_end rf64 h n ≡ padded_end h.start (data_bytes h.params n)
unfolding closing
closed_by h n = ap (λ (m : ℕ). end h n + m) (length-replicate {A = ℕ} (data_bytes h.params n % 2) 0)

-- ---- marks and fields

mark_place : (i : ℕ) → is_mark Rf64 i ≡ true → i < 12
mark_place i is = grind arith

keeps_marks : (b : List ℕ) (h : Shape) → rf64_layout b ≡ Ok h → KeepsMarks Rf64 h
keeps_marks b h is =
    let from : Opens b h = opens b h is in
    let stand : Stands b h = stands b h is in
    record {
      is_kind = kind_is b h is;
      marks = λ i mark.
          let place : i < 12 = mark_place i mark in
          (omega (arith, stand.late, place), rw from.shape (no_field b from.sizes (rf64_front b from.sizes.next) from.params from.sound.at i (inl (omega (arith, place)))));
    }

inner_width : (h : Shape) (n : ℕ) → length (inner_value h n) ≡ 8
unfolding inner_value
inner_width h n = length-bytes_of Little 8 (data_bytes h.params n)

outer_width : (h : Shape) (n : ℕ) → length (outer_value h n) ≡ 8
unfolding outer_value
outer_width h n = length-bytes_of Little 8 (padded_end h.start (data_bytes h.params n) - 8)

side_width : (h : Shape) (n : ℕ) → length (side_value h n) ≡ 8
unfolding side_value
side_width h n = length-bytes_of Little 8 n

closing_width : (h : Shape) (n : ℕ) → length (closing h n) ≤ 1
unfolding closing
closing_width h n = omega (arith, length-replicate {A = ℕ} (data_bytes h.params n % 2) 0)

fields_apart : (b : List ℕ) (h : Shape) → Says rf64 b h → FieldsApart h
fields_apart b h said =
    let from : Opens b h = opens b h (told b h said) in
    rw from.shape (record { outer = inr (omega arith); side = inl (omega arith); others = inl (omega arith); whole = omega arith })

fills_fields : (b : List ℕ) (h : Shape) (n : ℕ) → Says rf64 b h → FillsFields rf64 h n
fills_fields b h n said =
    let stand : Stands b h = stands b h (told b h said) in
    record {
      inner = inner_width h n ∙ sym (ap (λ (f : Field). f.size) stand.inner);
      outer = subst (λ (o : Option Field). IfSome o (λ field. length (outer_value h n) ≡ field.size)) (sym stand.outer) (outer_width h n);
      side = subst (λ (o : Option Field). IfSome o (λ field. length (side_value h n) ≡ field.size)) (sym stand.side) (side_width h n);
    }

fits_eight : (field : Option Field) (v : List ℕ) → has_size field 8 ≡ true → length v ≡ 8 → FitsField field v
fits_eight None v is eight = tt
fits_eight (Some f) v is eight = omega (arith, eqb-true f.size 8 is, eight)

values_fit : (h : Shape) (n : ℕ) → h.kind ≡ Rf64 → KeepsRule h → FitsFields rf64 h n
values_fit h n kind rule =
    let inner : is_inner_size Rf64 h.params.codec h.inner.size ≡ true = subst (λ (k : Kind). is_inner_size k h.params.codec h.inner.size ≡ true) kind rule.inner_size in
    let outer : is_outer_size Rf64 h.outer ≡ true = subst (λ (k : Kind). is_outer_size k h.outer ≡ true) kind rule.outer_size in
    let side : is_side_size Rf64 h.params.codec h.side ≡ true = subst (λ (k : Kind). is_side_size k h.params.codec h.side ≡ true) kind rule.side_size in
    record {
      inner = omega (arith, inner_width h n, eqb-true h.inner.size 8 inner);
      few_inner = omega (arith, inner_width h n);
      outer = fits_eight h.outer (outer_value h n) outer (outer_width h n);
      few_outer = omega (arith, outer_width h n);
      side = fits_eight h.side (side_value h n) side (side_width h n);
      few_side = omega (arith, side_width h n);
    }

-- the values hang on other parts of a layout than these
module _ (h : Shape) (f d : ℕ) (t : Bool) (n : ℕ) where
  abbrev recounted : Shape
  recounted = record h { frames = f; declared = d; trailing = t }

  inner_free : inner_value recounted n ≡ inner_value h n
  unfolding inner_value
  inner_free = refl

  outer_free : outer_value recounted n ≡ outer_value h n
  unfolding outer_value
  outer_free = refl

  side_free : side_value recounted n ≡ side_value h n
  unfolding side_value
  side_free = refl

  closing_free : closing recounted n ≡ closing h n
  unfolding closing
  closing_free = refl

  values_are_free : SameValues rf64 h recounted n
  values_are_free = record { inner = inner_free; outer = outer_free; side = side_free; closing = closing_free }

-- and are bytes
module _ (h : Shape) (n : ℕ) where
  inner_bytes : All IsByte (inner_value h n)
  unfolding inner_value
  inner_bytes = (bytes_are_bytes Little 8 (data_bytes h.params n)).1

  outer_bytes : All IsByte (outer_value h n)
  unfolding outer_value
  outer_bytes = (bytes_are_bytes Little 8 (padded_end h.start (data_bytes h.params n) - 8)).1

  side_bytes : All IsByte (side_value h n)
  unfolding side_value
  side_bytes = (bytes_are_bytes Little 8 n).1

  closing_bytes : All IsByte (closing h n)
  unfolding closing
  closing_bytes = All-replicate IsByte (data_bytes h.params n % 2) 0 (omega arith)

  values_are_bytes : AreBytes rf64 h n
  values_are_bytes = record { inner = inner_bytes; outer = outer_bytes; side = side_bytes; closing = closing_bytes }

closes_near : (h : Shape) → ClosesNear rf64 h
closes_near h = record {
  few = λ n. omega (arith, closing_width h n);
  ordered = λ n m fewer. omega (arith, closed_by h n, closed_by h m, fewer);
}

-- ---- files that are partly old and partly new

old_count_reads_back : OldCountReadsBack rf64
old_count_reads_back b x h said bytes free known hold keeps inner ends = says x h (old_count b x h (told b h said) free hold keeps inner ends)

new_count_reads_back : NewCountReadsBack rf64
new_count_reads_back b x h n may keeps inner long ends =
    says x (counted_shape h n) (new_count b x h n (told b h may.says) may.params may.free may.on_disk keeps inner (omega (arith, long)) (omega (arith, ends, closed_by h n)))

same_outside_data_reads_back : SameOutsideDataReadsBack rf64
same_outside_data_reads_back b x h is good long same = same_outside b x h is good (stands b h is).within long same

voice_reads_back : VoiceReadsBack rf64
voice_reads_back b x h said voc = absurd (let no : Rf64 ≡ Voc = sym (kind_is b h (told b h said)) ∙ voc in cc)

voice_declares : VoiceDeclares rf64
voice_declares b h is voc = absurd (let no : Rf64 ≡ Voc = sym (kind_is b h is) ∙ voc in cc)

outer_least : (x : List ℕ) (h : Shape) (n : ℕ) → HasAt x 20 (outer_value h n) → number Little x 20 8 ≤ padded_end h.start (data_bytes h.params n) - 8
unfolding outer_value
outer_least x h n has = long_least x 20 (padded_end h.start (data_bytes h.params n) - 8) has

outer_reaches : OuterReaches rf64
outer_reaches b x h n said has =
    let stand : Stands b h = stands b h (told b h said) in
    let there : HasAt x 20 (outer_value h n) = subst (λ (o : Option Field). IfSome o (λ field. HasAt x field.at (outer_value h n))) stand.outer has in
    omega (arith, outer_least x h n there, closed_by h n, stand.late)

outer_stops : OuterStops rf64
outer_stops b x h said free has short =
    let is : rf64_layout b ≡ Ok h = told b h said in
    let stand : Stands b h = stands b h is in
    let own : Stays b b h = stays b b h is stand.within (λ i lt out. refl) in
    let there : HasFieldOf x b 20 8 = subst (λ (o : Option Field). IfSome o (λ field. HasFieldOf x b field.at field.size)) stand.outer has in
    let size : number Little x 20 8 ≡ number Little b 20 8 = same_number_at Little 8 20 x b (λ i from to. in_field x b 20 8 i there from to) in
    let whole = ap (λ (s : Sizes). s.whole) own.told in
    omega (arith, free_ends b b h own free, whole, size, short, ap (λ (s : Shape). s.start) own.old, ap (λ (s : Shape). s.declared) own.old)

outer_is_within : OuterIsWithin rf64
outer_is_within kind x = omega arith

ends_are_in_order : EndsAreInOrder rf64
ends_are_in_order b h n said = (λ more. omega (arith, closed_by h n, more), λ fewer. omega (arith, closed_by h n, fewer))

-- ---- all of them

pub keeps_laws : KeepsLaws Rf64 rf64
keeps_laws = record {
  marks = keeps_marks;
  lies = lies_in;
  old = old_count_reads_back;
  new = new_count_reads_back;
  outside = same_outside_data_reads_back;
  voice = voice_reads_back;
  declares = voice_declares;
  reaches = outer_reaches;
  stops = outer_stops;
  within = outer_is_within;
  order = ends_are_in_order;
  closes = closes_near;
  apart = fields_apart;
  fill = fills_fields;
  fit = values_fit;
  free = values_are_free;
  bytes = values_are_bytes;
  pieces = pieces_stay;
  made = is_new;
}
