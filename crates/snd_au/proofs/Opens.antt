-- What a layout says of the file, and of the numbers in its head, from which it is made.
use Rattle.std.proofs.Common.{◌≡◌, ◌∙◌, ap, sym, refl, ℕ, ◌+◌, ◌-◌, ◌/◌, ◌^◌, ◌<◌, ◌≤◌, true, false, List, Option, None, Some, Ok, Err, length, min, inl, inr, arith}
use Rattle.std.proofs.Math.Nat.{div-mul-le_self}
use Rattle.std.proofs.lemmas.Bool.{cases_Bool, le-ltb, lt-ltb, ltb-false}
use Rattle.std.specs.Prelude.{IfErr, Result, nat_lt}
use Rattle.snd_fields.specs.declared.field.Order.{Order}
use Rattle.snd_fields.specs.declared.field.Order.TheVariants.{Little, Big}
use Rattle.snd_layout.specs.Blocks.{block_align}
use Rattle.snd_layout.specs.Fit.{fit_refusal}
use Rattle.snd_layout.specs.Params.{AreParams, Parameters, data_bytes}
use Rattle.snd_layout.specs.Shape.{KeepsRule, Shape, end, room}
use Rattle.snd_layout.specs.declared.refusal.OpenRefusal.{OpenRefusal}
use Rattle.snd_layout.specs.declared.refusal.OpenRefusal.TheVariants.{ShortHeader}
use Rattle.snd_layout.proofs.Codecs.{fixed_bytes}
use Rattle.snd_au.proofs.Encodings.{AreFixed, IsStated, are_fixed, stated}
use Rattle.snd_au.specs.Layout.{au_layout, au_shape, held, is_unknown, kind_of, layout_of, numbers_of, params_in, place_refusal, with_params, with_place}
use Rattle.snd_au.specs.declared.numbers.Numbers.{Numbers}

-- the data begin within a file
pub record IsPlaced (size offset : ℕ) : Type 0 where
  pub early : 24 ≤ offset
  pub within : offset ≤ size

pub placed : (size offset : ℕ) → place_refusal size offset ≡ None → IsPlaced size offset
placed size offset none = elim (cases_Bool (nat_lt offset 24)) [
  | inl is ↦ absurd (let h = rw is at none in cc)
  | inr late ↦ elim (cases_Bool (nat_lt size offset)) [
    | inl is ↦ absurd (let h = rw (late, is) at none in cc)
    | inr there ↦ record { early = ltb-false offset 24 late; within = ltb-false size offset there }
  ]
]

not_refused : (size offset : ℕ) → IsPlaced size offset → place_refusal size offset ≡ None
not_refused size offset is =
    let late : nat_lt offset 24 ≡ false = le-ltb offset 24 is.early in
    let there : nat_lt size offset ≡ false = le-ltb size offset is.within in
    rw (late, there) refl

-- the layout comes from numbers that place the data and state parameters
pub record IsGiven (order : Order) (size : ℕ) (n : Numbers) (h : Shape) : Type 0 where
  pub placed : IsPlaced size n.offset
  pub params : params_in order n ≡ Ok h.params
  pub shape : h ≡ au_shape order size n h.params

by_params : (order : Order) (size : ℕ) (n : Numbers) (r : Result Parameters OpenRefusal) (h : Shape) → with_params order size n r ≡ Ok h → (r ≡ Ok h.params) × (h ≡ au_shape order size n h.params)
by_params order size n (Err refusal) h is = absurd (cc)
by_params order size n (Ok p) h is =
    let same : au_shape order size n p ≡ h = cc in
    rw (← same) (refl, refl)

by_place : (order : Order) (size : ℕ) (n : Numbers) (r : Option OpenRefusal) (h : Shape) → with_place order size n r ≡ Ok h → (r ≡ None) × (with_params order size n (params_in order n) ≡ Ok h)
by_place order size n (Some refusal) h is = absurd (cc)
by_place order size n None h is = (refl, is)

pub given : (order : Order) (size : ℕ) (n : Numbers) (h : Shape) → layout_of order size n ≡ Ok h → IsGiven order size n h
unfolding layout_of
given order size n h is =
    let place = by_place order size n (place_refusal size n.offset) h is in
    let params = by_params order size n (params_in order n) h place.1 in
    record { placed = placed size n.offset place.0; params = params.0; shape = params.1 }

pub gives : (order : Order) (size : ℕ) (n : Numbers) (p : Parameters) → IsPlaced size n.offset → params_in order n ≡ Ok p → layout_of order size n ≡ Ok (au_shape order size n p)
unfolding layout_of
gives order size n p place params = ap (with_place order size n) (not_refused size n.offset place) ∙ ap (with_params order size n) params

-- a file has a layout where its head gives one
pub record Opens (order : Order) (b : List ℕ) (h : Shape) : Type 0 where
  pub long : 24 ≤ length b
  pub gives : IsGiven order (length b) (numbers_of order b) h

pub opens : (order : Order) (b : List ℕ) (h : Shape) → au_layout order b ≡ Ok h → Opens order b h
unfolding au_layout
opens order b h is = elim (cases_Bool (nat_lt (length b) 24)) [
  | inl short ↦ absurd (let h = rw short at is in cc)
  | inr long ↦ record { long = ltb-false (length b) 24 long; gives = given order (length b) (numbers_of order b) h (rw long at is) }
]

pub long_enough : (order : Order) (b : List ℕ) → 24 ≤ length b → au_layout order b ≡ layout_of order (length b) (numbers_of order b)
unfolding au_layout
long_enough order b long = let test : nat_lt (length b) 24 ≡ false = le-ltb (length b) 24 long in rw test refl

pub too_short : (order : Order) (size : ℕ) (b : List ℕ) → size ≡ length b → size < 24 → au_layout order b ≡ Err ShortHeader
unfolding au_layout
too_short order size b is short = let test : nat_lt (length b) 24 ≡ true = lt-ltb (length b) 24 (omega (arith, is, short)) in rw test refl

-- the layout of a file whose size and numbers were read
pub read_layout : (order : Order) (size : ℕ) (n : Numbers) (b : List ℕ) → 24 ≤ size → size ≡ length b → n ≡ numbers_of order b → au_layout order b ≡ layout_of order size n
read_layout order size n b long is same = long_enough order b (omega (arith, is, long)) ∙ ap (λ (k : ℕ). layout_of order k (numbers_of order b)) (sym is) ∙ ap (layout_of order size) (sym same)

pub refused_place : (order : Order) (size : ℕ) (n : Numbers) (refusal : OpenRefusal) → place_refusal size n.offset ≡ Some refusal → layout_of order size n ≡ Err refusal
unfolding layout_of
refused_place order size n refusal is = ap (with_place order size n) is

pub refused_params : {T : Type 0} (order : Order) (size : ℕ) (n : Numbers) (refusal : OpenRefusal) (r : Result T OpenRefusal) → r ≡ Err refusal → place_refusal size n.offset ≡ None → params_in order n ≡ Err refusal
    → IfErr r (λ e. layout_of order size n ≡ Err e)
unfolding layout_of
refused_params order size n refusal r answered place is =
    rw answered (ap (with_place order size n) place ∙ ap (with_params order size n) is)

pub opened : (order : Order) (b : List ℕ) (p : Parameters) → 24 ≤ length b → IsPlaced (length b) (numbers_of order b).offset → params_in order (numbers_of order b) ≡ Ok p
    → au_layout order b ≡ Ok (au_shape order (length b) (numbers_of order b) p)
opened order b p long place params = long_enough order b long ∙ gives order (length b) (numbers_of order b) p place params

-- ---- what holds of the layout that numbers give

pub held_few : (size : ℕ) (n : Numbers) → held size n ≤ min size (2 ^ 63 - 8) - n.offset
held_few size n = elim (cases_Bool (is_unknown n.bytes)) [ inl is ↦ rw is (omega arith) | inr other ↦ rw other (omega arith) ]

pub held_known : (size : ℕ) (n : Numbers) → is_unknown n.bytes ≡ false → held size n ≡ min n.bytes (min size (2 ^ 63 - 8) - n.offset)
held_known size n known = rw known refl

-- the data of the frames are no more than those that are held
pub few_bytes : (order : Order) (size : ℕ) (n : Numbers) (p : Parameters) → AreFixed p → data_bytes p (au_shape order size n p).frames ≤ held size n
few_bytes order size n p fixed =
    omega (arith, fixed_bytes p (held size n / block_align p.channels p.codec) fixed.adpcm, div-mul-le_self (held size n) (block_align p.channels p.codec))

pub data_held : (order : Order) (size : ℕ) (n : Numbers) (p : Parameters) → IsPlaced size n.offset → params_in order n ≡ Ok p → end (au_shape order size n p) (au_shape order size n p).frames ≤ size
data_held order size n p place is =
    let facts : IsStated order n p = stated order n p is in
    omega (arith, few_bytes order size n p (are_fixed order p facts.good facts.fits), held_few size n, place.within)

-- numbers of 32 bits
pub record AreWords (n : Numbers) : Type 0 where
  pub offset : n.offset < 2 ^ 32
  pub bytes : n.bytes < 2 ^ 32

rule_of : (order : Order) (size : ℕ) (n : Numbers) (p : Parameters) → fit_refusal (kind_of order) p ≡ None → IsPlaced size n.offset → AreWords n → data_bytes p (au_shape order size n p).frames ≤ held size n
    → data_bytes p (au_shape order size n p).frames + n.offset + 8 ≤ 2 ^ 63 → (is_unknown n.bytes ≡ false → data_bytes p (au_shape order size n p).frames ≤ n.bytes) → KeepsRule (au_shape order size n p)
rule_of Big size n p fits place words few ends known = record {
  fits = fits;
  inner_size = refl;
  outer_size = refl;
  side_size = refl;
  inner_end = omega (arith, place.early);
  outer_end = tt;
  side_end = tt;
  sound_start = refl;
  pieces_placed = λ k d lt. absurd (omega (arith, lt));
  data_end = omega (arith, ends);
  in_room = λ told. omega (arith, known told, words.bytes);
  declared_fits = omega (arith, words.bytes);
  reserved = tt;
}
rule_of Little size n p fits place words few ends known = record {
  fits = fits;
  inner_size = refl;
  outer_size = refl;
  side_size = refl;
  inner_end = omega (arith, place.early);
  outer_end = tt;
  side_end = tt;
  sound_start = refl;
  pieces_placed = λ k d lt. absurd (omega (arith, lt));
  data_end = omega (arith, ends);
  in_room = λ told. omega (arith, known told, words.bytes);
  declared_fits = omega (arith, words.bytes);
  reserved = tt;
}

-- all of it
pub record LiesWell (order : Order) (size : ℕ) (n : Numbers) (p : Parameters) : Type 0 where
  pub rule : KeepsRule (au_shape order size n p)
  pub held : end (au_shape order size n p) (au_shape order size n p).frames ≤ size
  pub room_ends : (au_shape order size n p).start + room (au_shape order size n p) + 8 ≤ 2 ^ 63
  pub declared : is_unknown n.bytes ≡ false → data_bytes p (au_shape order size n p).frames ≤ (au_shape order size n p).declared

room_end : (order : Order) (size : ℕ) (n : Numbers) (p : Parameters) → n.offset < 2 ^ 32 → n.offset + room (au_shape order size n p) + 8 ≤ 2 ^ 63
room_end Big size n p few = omega (arith, few)
room_end Little size n p few = omega (arith, few)

pub lies_well : (order : Order) (size : ℕ) (n : Numbers) (p : Parameters) → AreParams p → fit_refusal (kind_of order) p ≡ None → IsPlaced size n.offset → AreWords n → LiesWell order size n p
lies_well order size n p good fits place words =
    let bytes : data_bytes p (au_shape order size n p).frames ≤ held size n = few_bytes order size n p (are_fixed order p good fits) in
    let few : held size n ≤ min size (2 ^ 63 - 8) - n.offset = held_few size n in
    let known : is_unknown n.bytes ≡ false → data_bytes p (au_shape order size n p).frames ≤ n.bytes = λ told. omega (arith, bytes, held_known size n told) in
    record {
      rule = rule_of order size n p fits place words bytes (omega (arith, bytes, few, words.offset)) known;
      held = omega (arith, bytes, few, place.within);
      room_ends = room_end order size n p words.offset;
      declared = λ told. omega (arith, known told, words.bytes);
    }
