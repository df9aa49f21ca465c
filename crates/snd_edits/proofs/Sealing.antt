-- What the steps of writing leave and keep.
use Rattle.std.proofs.Common.{◌≡◌, ◌∙◌, ap, sym, subst, refl, inl, inr, ℕ, ◌+◌, ◌*◌, ◌≤◌, Bool, true, false, cond, List, length, Option, None, Some, option_map, arith}
use Rattle.std.specs.Prelude.{◌≢◌, IsTrue, ℤ, is_none, nat_le}
use Rattle.std.proofs.lemmas.Bool.{cases_Bool, cases_lt, le-leb, le-ltb, lt-ltb}
use Rattle.snd_layout.specs.Params.{Parameters, data_bytes}
use Rattle.snd_layout.specs.Shape.{KeepsRule, Shape, end, is_outer_size, is_side_size}
use Rattle.snd_layout.specs.declared.field.Field.{Field}
use Rattle.snd_layout.specs.declared.kind.Kind.{Kind}
use Rattle.snd_layout.specs.declared.kind.Kind.TheVariants.{Voc}
use Rattle.snd_container.specs.Values.{closed_end, outer_value, side_value}
use Rattle.snd_patch.specs.Sealed.{closed, grown, over_closing, patched, sealed, with_fewer, with_fields, with_inner}
use Rattle.snd_layout.specs.Filled.{over_field}
use Rattle.snd_container.specs.Sound.{fixed_of}
use Rattle.snd_container.specs.Fixed.{byte_count, samples_bytes}
use Rattle.snd_container.specs.declared.fixed.Fixed.{Fixed}
use Rattle.snd_container.proofs.Public.{count_of_bytes}
use Rattle.snd_edits.specs.Edits.{coded, coded_as}
use Rattle.snd_edits.proofs.SoundFrames.{linear_bytes, span_fits}
use Rattle.snd_edits.specs.Writing.{IsKeptUp, closed_size}

pub same_maps : (f g : List ℕ → List ℕ) (o : Option (List ℕ)) → ((b : List ℕ) → o ≡ Some b → f b ≡ g b) → option_map f o ≡ option_map g o
same_maps f g None same = refl
same_maps f g (Some b) same = ap (λ (l : List ℕ). Some l) (same b refl)

-- where a file has a single field, as in Creative Voice, the order of the fields makes no difference
no_field : (field : Option Field) (b bytes : List ℕ) → is_none field ≡ true → over_field field b bytes ≡ b
no_field None b bytes is = refl
no_field (Some field) b bytes is = absurd (cc)

single_field : (b : List ℕ) (h : Shape) (n : ℕ) → is_none h.outer ≡ true → is_none h.side ≡ true → with_fields b h n ≡ with_fewer b h n
single_field b h n outer side =
    let others = λ (l : List ℕ). no_field h.side (over_field h.outer l (outer_value h n)) (side_value h n) side ∙ no_field h.outer l (outer_value h n) outer in
    others (with_inner b h n) ∙ ap (λ (l : List ℕ). with_inner l h n) (sym (others b))

patched_in_order : (b : List ℕ) (h : Shape) (n : ℕ) → h.declared ≤ data_bytes h.params n → with_fields b h n ≡ patched b h n
patched_in_order b h n few = sym (ap (λ (t : Bool). cond t (with_fields b h n) (with_fewer b h n)) (le-leb h.declared (data_bytes h.params n) few))

either_same : (t : Bool) (x y : List ℕ) → x ≡ y → x ≡ cond t x y
either_same true x y same = refl
either_same false x y same = same

-- the bytes of the fields, by the kind
patched_by : (kind : Kind) (b : List ℕ) (h : Shape) (n : ℕ) → h.kind ≡ kind → KeepsRule h → (h.kind ≢ Voc → h.declared ≤ data_bytes h.params n) → with_fields b h n ≡ patched b h n
patched_by Voc b h n is rule few =
    let outer : is_none h.outer ≡ true = subst (λ (k : Kind). IsTrue (is_outer_size k h.outer)) is rule.outer_size in
    let side : is_none h.side ≡ true = subst (λ (k : Kind). IsTrue (is_side_size k h.params.codec h.side)) is rule.side_size in
    either_same (nat_le h.declared (data_bytes h.params n)) (with_fields b h n) (with_fewer b h n) (single_field b h n outer side)
patched_by _ b h n is rule few = patched_in_order b h n (few (λ voc. cc))

-- where what closes the data is there, and the head declares no more than these, growing is sealing
patched_grown : (b : List ℕ) (h : Shape) (n : ℕ) → KeepsRule h → IsKeptUp h n (length b) → with_fields b h n ≡ patched (closed b h n) h n
patched_grown b h n rule up =
    let shut : closed b h n ≡ b = ap (λ (t : Bool). cond t (over_closing b h n) b) (le-ltb (length b) (closed_end h n) up.closed) in
    patched_by h.kind b h n refl rule up.declared ∙ sym (ap (λ (l : List ℕ). patched l h n) shut)

pub grown_is_sealed : (b : List ℕ) (h : Shape) (n : ℕ) → KeepsRule h → (h.trailing ≡ false → IsKeptUp h n (length b)) → grown b h n ≡ sealed b h n
grown_is_sealed b h n rule up = elim (cases_Bool h.trailing) [
  | inl is ↦ ap (λ (t : Bool). cond t b (with_fields b h n)) is ∙ sym (ap (λ (t : Bool). cond t b (patched (closed b h n) h n)) is)
  | inr other ↦ ap (λ (t : Bool). cond t b (with_fields b h n)) other ∙ patched_grown b h n rule (up other) ∙ sym (ap (λ (t : Bool). cond t b (patched (closed b h n) h n)) other)
]

pub coded_is : (p : Parameters) (form : Fixed) (xs : List ℤ) → fixed_of p.codec ≡ Some form → samples_bytes form xs ≡ coded p xs
coded_is p form xs is = sym (ap (λ (o : Option Fixed). coded_as o xs) is)

pub length-coded : (p : Parameters) (form : Fixed) (xs : List ℤ) → fixed_of p.codec ≡ Some form → length (coded p xs) ≡ byte_count form * length xs
length-coded p form xs is = sym (ap length (coded_is p form xs is)) ∙ (count_of_bytes form xs).0

pub end_is : (h : Shape) (form : Fixed) (n : ℕ) → fixed_of h.params.codec ≡ Some form → h.start + byte_count form * (h.params.channels * n) ≡ end h n
end_is h form n is = sym (ap (λ (m : ℕ). h.start + m) (linear_bytes h.params form n is))

-- the data of fewer frames end earlier
pub end_before : (h : Shape) (form : Fixed) (n m : ℕ) → fixed_of h.params.codec ≡ Some form → n ≤ m → end h n ≤ end h m
end_before h form n m is within =
    omega (arith, end_is h form n is, end_is h form m is, span_fits (byte_count form) h.params.channels n 0 m (omega (arith, within)))

end_before_as : (h : Shape) (o : Option Fixed) (n m : ℕ) → fixed_of h.params.codec ≡ o → is_none o ≡ false → n ≤ m → end h n ≤ end h m
end_before_as h None n m is linear within = absurd (cc)
end_before_as h (Some form) n m is linear within = end_before h form n m is within

pub ends_before : (h : Shape) (n m : ℕ) → is_none (fixed_of h.params.codec) ≡ false → n ≤ m → end h n ≤ end h m
ends_before h n m linear within = end_before_as h (fixed_of h.params.codec) n m refl linear within

-- what closes the data is there, once frames were written
closed_after : (size : ℕ) (h : Shape) (n : ℕ) → h.frames ≤ n → (h.frames ≡ n → closed_end h n ≤ size) → closed_end h n ≤ closed_size size h n
closed_after size h n more there = elim (cases_lt h.frames n) [
  | inl lt ↦ rw (lt-ltb h.frames n lt) (omega arith)
  | inr le ↦ rw (le-ltb h.frames n le) (there (omega (arith, more, le)))
]

pub still_kept_up : (h : Shape) (n old size new : ℕ) → is_none (fixed_of h.params.codec) ≡ false → h.frames ≤ n → IsKeptUp h h.frames old → old ≤ size → new ≡ closed_size size h n → IsKeptUp h n new
still_kept_up h n old size new linear more up later is = record {
  closed = subst (λ (m : ℕ). closed_end h n ≤ m) (sym is) (closed_after size h n more (λ same. subst (λ (m : ℕ). closed_end h m ≤ size) same (omega (arith, up.closed, later))));
  declared = λ other. omega (arith, up.declared other, ends_before h h.frames n linear more);
}

pub closed_no_less : (size : ℕ) (h : Shape) (n : ℕ) → size ≤ closed_size size h n
closed_no_less size h n = elim (cases_lt h.frames n) [
  | inl lt ↦ rw (lt-ltb h.frames n lt) (omega arith)
  | inr le ↦ rw (le-ltb h.frames n le) (omega arith)
]
