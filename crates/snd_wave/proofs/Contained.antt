-- A WAVE file keeps the laws of all containers.
use Rattle.std.proofs.Common.{◌≡◌, ◌⊎◌, ◌∙◌, ap, sym, subst, refl, inl, inr, ℕ, ◌+◌, ◌-◌, ◌%◌, ◌^◌, ◌<◌, ◌≤◌, Bool, true, false, ◌&&◌, List, Option, None, Some, Ok, length, arith}
use Rattle.std.proofs.lemmas.Bool.{and_parts, cases_Bool, leb-true, ltb-true}
use Rattle.std.proofs.lemmas.List.{length-replicate}
use Rattle.std.specs.Prelude.{IfSome, nat_le, nat_lt}
use Rattle.snd_chunks.proofs.Public.{same_number_at}
use Rattle.snd_chunks.specs.Chunks.{padded_end}
use Rattle.snd_disk.specs.Runs.{AreApart, HasAt, HasFieldOf, IsInOneSector}
use Rattle.snd_fields.specs.Field.{number}
use Rattle.snd_fields.specs.declared.field.Order.TheVariants.{Little}
use Rattle.snd_layout.specs.Container.{ClosesNear, EndsAreInOrder, FieldsApart, FillsFields, KeepsLaws, KeepsMarks, MayBeCounted, NewCountReadsBack, OldCountReadsBack, OuterIsWithin, OuterReaches, OuterStops, SameOutsideDataReadsBack, SameValues, Says, VoiceDeclares, VoiceReadsBack, closed_end, counted_shape, is_in_some, is_mark}
use Rattle.snd_layout.specs.Params.{data_bytes}
use Rattle.snd_layout.specs.Shape.{Shape, end, room}
use Rattle.snd_layout.specs.declared.field.Field.{Field}
use Rattle.snd_layout.specs.declared.kind.Kind.TheVariants.{Wave, Voc}
use Rattle.snd_wave.proofs.Agreements.{outside}
use Rattle.snd_wave.proofs.ByteValues.{values_are_bytes}
use Rattle.snd_wave.proofs.Counted as counted
use Rattle.snd_wave.proofs.Counted.{HasNew, MaySay, StandsIn, length-inner_value, out_of_fields, says_so, side_fills, stands}
use Rattle.snd_wave.proofs.Images as images
use Rattle.snd_wave.proofs.Images.{few_before, frames_end, in_field, start_within}
use Rattle.snd_wave.proofs.KeptPieces.{pieces_stay}
use Rattle.snd_wave.proofs.LayoutFacts.{FieldsStandApart, padded_data_end}
use Rattle.snd_wave.proofs.Lies.{lies_in}
use Rattle.snd_wave.proofs.NewFiles.{is_new}
use Rattle.snd_wave.proofs.Standing.{fields_are_apart}
use Rattle.snd_wave.proofs.Widths.{closing_width, outer_width, values_fit}
use Rattle.snd_wave.specs.Container.{wave}
use Rattle.snd_wave.specs.Layout.{outer_end, wave_layout}
use Rattle.snd_wave.specs.Values.{closing, inner_value, outer_value, side_value}

-- ---- what a file says

kind_is : (b : List ℕ) (h : Shape) → wave_layout b ≡ Ok h → h.kind ≡ Wave
kind_is b h is = (stands b h is).kind

told_as : (b : List ℕ) (h : Shape) (goes_on : Bool) → wave_layout b ≡ Ok (record h { trailing = goes_on }) → (h.kind ≡ Voc) ⊎ (goes_on ≡ h.trailing) → wave_layout b ≡ Ok h
told_as b h goes_on told (inl voc) = absurd (let no : Wave ≡ Voc = sym (kind_is b (record h { trailing = goes_on }) told) ∙ voc in cc)
told_as b h goes_on told (inr same) = subst (λ (t : Bool). wave_layout b ≡ Ok (record h { trailing = t })) same told

told : (b : List ℕ) (h : Shape) → Says wave b h → wave_layout b ≡ Ok h
told b h says = told_as b h says.goes_on says.told says.same

says : (b : List ℕ) (h : Shape) → wave_layout b ≡ Ok h → Says wave b h
says b h is = record { goes_on = h.trailing; told = is; same = inr refl }

-- the end of what closes the data
pub closed_by : (h : Shape) (n : ℕ) → closed_end wave h n ≡ padded_end h.start (data_bytes h.params n)
unfolding closing
closed_by h n = ap (λ (m : ℕ). end h n + m) (length-replicate {A = ℕ} (data_bytes h.params n % 2) 0)

-- ---- marks and fields

side_out : (inner : Field) (side : Option Field) (i : ℕ) → IfSome side (λ field. (field.size ≡ 4) × (20 ≤ field.at) × (field.at + 4 ≤ inner.at)) → i < 20 → is_in_some side i ≡ false
side_out inner None i stands early = refl
side_out inner (Some f) i stands early = outside f.at f.size i (inl (omega (arith, stands.1, early)))

mark_place : (i : ℕ) → is_mark Wave i ≡ true → ((i < 4) ⊎ (8 ≤ i)) × (i < 12)
mark_place i is = elim (cases_Bool (nat_lt i 4)) [
  | inl first ↦ (inl (ltb-true i 4 first), omega (arith, ltb-true i 4 first))
  | inr later ↦
      let both : (nat_le 8 i && nat_lt i 12) ≡ true = rw later at is in
      let parts = and_parts (nat_le 8 i) (nat_lt i 12) both in
      (inr (leb-true 8 i parts.0), ltb-true i 12 parts.1)
]

keeps_marks : (b : List ℕ) (h : Shape) → wave_layout b ≡ Ok h → KeepsMarks Wave h
keeps_marks b h is =
    let apart : FieldsStandApart h = fields_are_apart b h is in
    record {
      is_kind = kind_is b h is;
      marks = λ i mark.
          let place = mark_place i mark in
          let outer : is_in_some h.outer i ≡ false = ap (λ (o : Option Field). is_in_some o i) apart.outer ∙ outside 4 4 i place.0 in
          (omega (arith, apart.inner, apart.start, place.1), out_of_fields h i (outside h.inner.at h.inner.size i (inl (omega (arith, apart.inner, place.1)))) outer (side_out h.inner h.side i apart.side (omega (arith, place.1))));
    }

-- the count that is not read stands between the size of the whole and the field that decides the count
sides_apart : (inner : Field) (side : Option Field) → IfSome side (λ field. (field.size ≡ 4) × (20 ≤ field.at) × (field.at + 4 ≤ inner.at))
    → IfSome side (λ field. AreApart inner.at inner.size field.at field.size) × IfSome side (λ field. AreApart 4 4 field.at field.size)
sides_apart inner None stands = (tt, tt)
sides_apart inner (Some field) stands = (inr (omega (arith, stands.0, stands.2)), inl (omega (arith, stands.1)))

fields_apart : (b : List ℕ) (h : Shape) → Says wave b h → FieldsApart h
fields_apart b h said =
    let apart : FieldsStandApart h = fields_are_apart b h (told b h said) in
    let sides = sides_apart h.inner h.side apart.side in
    record {
      outer = subst (λ (o : Option Field). IfSome o (λ field. AreApart h.inner.at h.inner.size field.at field.size)) (sym apart.outer) (inr (omega (arith, apart.inner)));
      side = sides.0;
      others = subst (λ (o : Option Field). IfSome o (λ outer. IfSome h.side (λ side. AreApart outer.at outer.size side.at side.size))) (sym apart.outer) sides.1;
      whole = subst (λ (o : Option Field). IfSome o (λ field. IsInOneSector field.at field.size)) (sym apart.outer) (omega arith);
    }

fills_fields : (b : List ℕ) (h : Shape) (n : ℕ) → Says wave b h → FillsFields wave h n
unfolding side_value
fills_fields b h n said =
    let is : wave_layout b ≡ Ok h = told b h said in
    let apart : FieldsStandApart h = fields_are_apart b h is in
    record {
      inner = length-inner_value h n (stands b h is).sizes;
      outer = subst (λ (o : Option Field). IfSome o (λ field. length (outer_value h n) ≡ field.size)) (sym apart.outer) (outer_width h n);
      side = side_fills h.side n h.inner.at apart.side;
    }

-- the values hang on other parts of a layout than these
module _ (h : Shape) (f d : ℕ) (t : Bool) (n : ℕ) where
  abbrev recounted : Shape
  recounted = record h { frames = f; declared = d; trailing = t }

  inner_free : inner_value recounted n ≡ inner_value h n
  unfolding inner_value
  inner_free = refl

  outer_free : outer_value recounted n ≡ outer_value h n
  unfolding outer_value
  outer_free = refl

  side_free : side_value recounted n ≡ side_value h n
  unfolding side_value
  side_free = refl

  closing_free : closing recounted n ≡ closing h n
  unfolding closing
  closing_free = refl

  values_are_free : SameValues wave h recounted n
  values_are_free = record { inner = inner_free; outer = outer_free; side = side_free; closing = closing_free }

closes_near : (h : Shape) → ClosesNear wave h
closes_near h = record {
  few = λ n. omega (arith, closing_width h n);
  ordered = λ n m fewer. omega (arith, closed_by h n, closed_by h m, fewer);
}

-- ---- files that are partly old and partly new

old_count_reads_back : OldCountReadsBack wave
old_count_reads_back b x h said bytes free known hold keeps inner ends = says x h (images.old_count_reads_back b x h (told b h said) bytes free hold keeps inner ends)

may_say : (b : List ℕ) (h : Shape) (n : ℕ) → MayBeCounted wave b h n → MaySay b h n
may_say b h n may =
    let is : wave_layout b ≡ Ok h = told b h may.says in
    let few = few_before b h may.bytes is in
    let apart : FieldsStandApart h = fields_are_apart b h is in
    let limit : room h ≡ 2 ^ 32 + 6 - h.start = rw (kind_is b h is) refl in
    record {
      opened = is;
      params = may.params;
      free = may.free;
      few = omega (arith, may.room.in_room, limit, few.0, apart.inner, apart.start);
      on_disk = omega (arith, may.on_disk);
      counted = λ adpcm. (may.room.counted (kind_is b h is) adpcm, twelve (stands b h is).sizes (may.joined adpcm));
    }
  where
    twelve : (h.inner.size ≡ 4) ⊎ (h.inner.size ≡ 12) → 12 ≤ h.inner.size → h.inner.size ≡ 12
    twelve (inl four) most = absurd (omega (arith, four, most))
    twelve (inr is) most = is

new_count_reads_back : NewCountReadsBack wave
new_count_reads_back b x h n may keeps inner long ends =
    says x (counted_shape h n) (says_so b x h n (may_say b h n may) (record { fields = record { inner = inner; beside = keeps; long = omega (arith, long) }; ends = omega (arith, ends, closed_by h n) }))

same_outside_data_reads_back : SameOutsideDataReadsBack wave
same_outside_data_reads_back b x h is good long same =
    let few : end h h.frames ≤ padded_data_end h (length b) = frames_end b h is good in
    images.same_outside_data_reads_back b x h is long (λ i place. same i (elim place [ inl before ↦ inl before | inr behind ↦ inr (omega (arith, few, behind)) ]))

voice_reads_back : VoiceReadsBack wave
voice_reads_back b x h said voc = absurd (let no : Wave ≡ Voc = sym (kind_is b h (told b h said)) ∙ voc in cc)

voice_declares : VoiceDeclares wave
voice_declares b h is voc = absurd (let no : Wave ≡ Voc = sym (kind_is b h is) ∙ voc in cc)

outer_reaches : OuterReaches wave
outer_reaches b x h n said has =
    let apart : FieldsStandApart h = fields_are_apart b h (told b h said) in
    let there : HasAt x 4 (outer_value h n) = subst (λ (o : Option Field). IfSome o (λ field. HasAt x field.at (outer_value h n))) apart.outer has in
    let ends : outer_end x ≤ padded_end h.start (data_bytes h.params n) = counted.outer_reaches x h n (omega (arith, apart.inner, apart.start)) there in
    omega (arith, ends, closed_by h n)

outer_stops : OuterStops wave
outer_stops b x h said free has short =
    let is : wave_layout b ≡ Ok h = told b h said in
    let apart : FieldsStandApart h = fields_are_apart b h is in
    let there : HasFieldOf x b 4 4 = subst (λ (o : Option Field). IfSome o (λ field. HasFieldOf x b field.at field.size)) apart.outer has in
    let size : number Little x 4 4 ≡ number Little b 4 4 = same_number_at Little 4 4 x b (λ i from to. in_field x b 4 4 i there from to) in
    let ends : outer_end b ≤ padded_end h.start h.declared = images.outer_stops b h is free in
    omega (arith, ends, size, short)

outer_is_within : OuterIsWithin wave
outer_is_within kind x = omega arith

ends_are_in_order : EndsAreInOrder wave
ends_are_in_order b h n said = (λ more. omega (arith, closed_by h n, more), λ fewer. omega (arith, closed_by h n, fewer))

-- ---- all of them

pub keeps_laws : KeepsLaws Wave wave
keeps_laws = record {
  marks = keeps_marks;
  lies = lies_in;
  old = old_count_reads_back;
  new = new_count_reads_back;
  outside = same_outside_data_reads_back;
  voice = voice_reads_back;
  declares = voice_declares;
  reaches = outer_reaches;
  stops = outer_stops;
  within = outer_is_within;
  order = ends_are_in_order;
  closes = closes_near;
  apart = fields_apart;
  fill = fills_fields;
  fit = values_fit;
  free = values_are_free;
  bytes = values_are_bytes;
  pieces = pieces_stay;
  made = is_new;
}
