-- The parts of a file that has a layout, and what they say in a file with the same bytes before its data.
use Rattle.std.proofs.Common.{◌≡◌, ◌⊎◌, ℕ, ◌+◌, ◌<◌, ◌≤◌, ◌^◌, true, false, not, List, All, length, get_or, Option, None, Some, Ok, Err, refl, sym, ap, ◌∙◌, inl, inr, arith}
use Rattle.std.proofs.lemmas.Bool.{and_from, and_parts, cases_Bool, le-leb, le-ltb, leb-true, ltb-false}
use Rattle.std.specs.Prelude.{◌==◌, ◌&&◌, ◌||◌, Result, nat_le, nat_lt}
use Rattle.snd_fields.proofs.Numbers.{number_fits, number_same}
use Rattle.snd_fields.specs.Field.{number}
use Rattle.snd_fields.specs.Laws.{IsByte}
use Rattle.snd_fields.specs.declared.field.Order.TheVariants.{Little}
use Rattle.snd_layout.specs.Params.{Parameters}
use Rattle.snd_layout.specs.Shape.{Shape}
use Rattle.snd_layout.specs.declared.refusal.OpenRefusal.{OpenRefusal}
use Rattle.snd_voc.proofs.Stays.{EndsBy, SameUpTo, Walks, number_before, walks}
use Rattle.snd_voc.specs.Layout.{data_start, extra, first_place, format_of, from_place, has_format, head_size, is_head, is_long, newer_format, older_format, size_at, sound_format, voc_layout, voc_shape, walk, with_format, with_sound}
use Rattle.snd_voc.specs.declared.blocks.Block.{Block}
use Rattle.snd_voc.specs.declared.blocks.Sound.{Sound}

pub record Opens (b : List ℕ) (h : Shape) : Type 0 where
  pub place : ℕ
  pub sound : Sound
  pub params : Parameters
  pub first : first_place b ≡ Ok place
  pub walked : walk b 256 place None ≡ Ok sound
  pub read : sound_format b sound ≡ Ok params
  pub shape : h ≡ voc_shape b sound params

with_read : (b : List ℕ) (h : Shape) (place : ℕ) (sound : Sound) (r : Result Parameters OpenRefusal) → first_place b ≡ Ok place → walk b 256 place None ≡ Ok sound → sound_format b sound ≡ r → with_format b sound r ≡ Ok h → Opens b h
with_read b h place sound (Err refusal) first walked read is = absurd (cc)
with_read b h place sound (Ok p) first walked read is = record { place = place; sound = sound; params = p; first = first; walked = walked; read = read; shape = cc }

with_walk : (b : List ℕ) (h : Shape) (place : ℕ) (r : Result Sound OpenRefusal) → first_place b ≡ Ok place → walk b 256 place None ≡ r → with_sound b r ≡ Ok h → Opens b h
with_walk b h place (Err refusal) first walked is = absurd (cc)
with_walk b h place (Ok sound) first walked is = with_read b h place sound (sound_format b sound) first walked refl is

with_place : (b : List ℕ) (h : Shape) (r : Result ℕ OpenRefusal) → first_place b ≡ r → from_place b r ≡ Ok h → Opens b h
with_place b h (Err refusal) first is = absurd (cc)
with_place b h (Ok place) first is = with_walk b h place (walk b 256 place None) first refl is

pub opens : (b : List ℕ) (h : Shape) → voc_layout b ≡ Ok h → Opens b h
unfolding voc_layout
opens b h is = with_place b h (first_place b) refl is

pub opened : (b : List ℕ) (h : Shape) → Opens b h → voc_layout b ≡ Ok h
unfolding voc_layout
opened b h o =
    ap (from_place b) o.first ∙ ap (with_sound b) o.walked ∙ ap (with_format b o.sound) o.read ∙ ap (λ (s : Shape). Ok s) (sym o.shape)

-- ---- the head of the file

record Begins (b : List ℕ) (place : ℕ) : Type 0 where
  long : 26 ≤ length b
  good : is_head b ≡ true
  is : head_size b ≡ place
  behind : 26 ≤ place

begins : (b : List ℕ) (place : ℕ) → first_place b ≡ Ok place → Begins b place
begins b place is = elim (cases_Bool (nat_lt (length b) 26)) [
  | inl short ↦ absurd (let h = rw short at is in cc)
  | inr long ↦ elim (cases_Bool (is_head b)) [
    | inl good ↦
        let place_is : head_size b ≡ place = (let h = rw (long, good) at is in cc) in
        let least : 26 ≤ head_size b = leb-true 26 (head_size b) (and_parts (nat_le 26 (head_size b)) _ good).0 in
        record { long = ltb-false (length b) 26 long; good = good; is = place_is; behind = omega (arith, least, place_is) }
    | inr bad ↦ absurd (let h = rw (long, bad) at is in cc)
  ]
]

first_same : (x b : List ℕ) (place : ℕ) → Begins b place → SameUpTo 26 x b → 26 ≤ length x → first_place x ≡ Ok place
first_same x b place start same long =
    let size : number Little x 20 2 ≡ number Little b 20 2 = number_before 26 20 2 x b same (omega arith) in
    let version : number Little x 22 2 ≡ number Little b 22 2 = number_before 26 22 2 x b same (omega arith) in
    let check : number Little x 24 2 ≡ number Little b 24 2 = number_before 26 24 2 x b same (omega arith) in
    let head_is : is_head x ≡ is_head b = rw (size, version, check) refl in
    let good : is_head x ≡ true = head_is ∙ start.good in
    let test : nat_lt (length x) 26 ≡ false = le-ltb (length x) 26 long in
    rw (test, good) (ap (λ (n : ℕ). Ok n) (size ∙ start.is))

-- ---- the format

-- Two files have the same bytes before the data of a block of sound, but for its size.
abbrev pub SameButSize : ℕ → ℕ → List ℕ → List ℕ → Type 0
SameButSize at n x b = (i : ℕ) → i < n → (i < at) ⊎ (at + 3 ≤ i) → get_or x i 0 ≡ get_or b i 0

record HasFormat (len end : ℕ) (sound : Sound) : Type 0 where
  enough : extra sound ≤ len
  there : data_start sound ≤ end
  long : not (sound.kind == 1) || is_long sound.extension ≡ true

has_parts : (len end : ℕ) (sound : Sound) → has_format len end sound ≡ true → HasFormat len end sound
has_parts len end sound is =
    let one = and_parts (nat_le (extra sound) len && nat_le (data_start sound) end) (not (sound.kind == 1) || is_long sound.extension) is in
    let two = and_parts (nat_le (extra sound) len) (nat_le (data_start sound) end) one.0 in
    record { enough = leb-true (extra sound) len two.0; there = leb-true (data_start sound) end two.1; long = one.1 }

pub formats_there : (b : List ℕ) (sound : Sound) (p : Parameters) → sound_format b sound ≡ Ok p → (has_format (size_at b sound.at) (length b) sound ≡ true) × (format_of b sound ≡ Ok p)
formats_there b sound p is = elim (cases_Bool (has_format (size_at b sound.at) (length b) sound)) [
  | inl has ↦ (has, let h = rw has at is in h)
  | inr none ↦ absurd (let h = rw none at is in cc)
]

older_same : (x b : List ℕ) (extension : Option Block) (at constant codec : ℕ) → SameUpTo (at + 1) x b → EndsBy at extension → is_long extension ≡ true → older_format x extension constant codec ≡ older_format b extension constant codec
older_same x b None at constant codec same ends long = refl
older_same x b (Some block) at constant codec same ends long =
    let few : 4 ≤ block.len = leb-true 4 block.len long in
    let wide : number Little x block.at 2 ≡ number Little b block.at 2 = number_before (at + 1) block.at 2 x b same (omega (arith, few, ends)) in
    let second : get_or x (block.at + 2) 0 ≡ get_or b (block.at + 2) 0 = same (block.at + 2) (omega (arith, few, ends)) in
    let third : get_or x (block.at + 3) 0 ≡ get_or b (block.at + 3) 0 = same (block.at + 3) (omega (arith, few, ends)) in
    rw (wide, second, third) refl

newer_same : (x b : List ℕ) (at : ℕ) → ((i : ℕ) → i < 16 → 4 ≤ i → get_or x (at + i) 0 ≡ get_or b (at + i) 0) → newer_format x at ≡ newer_format b at
newer_same x b at same =
    let code : number Little x (at + 10) 2 ≡ number Little b (at + 10) 2 = number_same Little 2 (at + 10) (at + 10) x b (λ i p q lt pe qe. let there : at + (10 + i) ≡ at + 10 + i = omega arith in rw (pe, qe, ← there) (same (10 + i) (omega arith) (omega arith))) in
    let rate : number Little x (at + 4) 4 ≡ number Little b (at + 4) 4 = number_same Little 4 (at + 4) (at + 4) x b (λ i p q lt pe qe. let there : at + (4 + i) ≡ at + 4 + i = omega arith in rw (pe, qe, ← there) (same (4 + i) (omega arith) (omega arith))) in
    let channels : get_or x (at + 9) 0 ≡ get_or b (at + 9) 0 = same 9 (omega arith) (omega arith) in
    let bits : get_or x (at + 8) 0 ≡ get_or b (at + 8) 0 = same 8 (omega arith) (omega arith) in
    rw (code, rate, channels, bits) refl

format_same : (x b : List ℕ) (sound : Sound) → SameButSize (sound.at + 1) (data_start sound) x b → EndsBy sound.at sound.extension → (not (sound.kind == 1) || is_long sound.extension ≡ true) → format_of x sound ≡ format_of b sound
format_same x b sound same ends long = elim (cases_Bool (sound.kind == 1)) [
  | inl one ↦
      let enough : is_long sound.extension ≡ true = (let h = rw one at long in h) in
      let extra_is : extra sound ≡ 2 = rw one refl in
      let constant : get_or x (sound.at + 4) 0 ≡ get_or b (sound.at + 4) 0 = same (sound.at + 4) (omega (arith, extra_is)) (inr (omega arith)) in
      let codec : get_or x (sound.at + 5) 0 ≡ get_or b (sound.at + 5) 0 = same (sound.at + 5) (omega (arith, extra_is)) (inr (omega arith)) in
      rw (one, constant, codec) (older_same x b sound.extension sound.at (get_or b (sound.at + 4) 0) (get_or b (sound.at + 5) 0) (λ i lt. same i (omega arith) (inl lt)) ends enough)
  | inr other ↦
      let extra_is : extra sound ≡ 12 = rw other refl in
      rw other (newer_same x b sound.at (λ i lt from. same (sound.at + i) (omega (arith, extra_is)) (inr (omega arith))))
]

-- ---- both

pub record Stands (b : List ℕ) (h : Shape) (sound : Sound) : Type 0 where
  pub start : h.start ≡ data_start sound
  pub behind : 26 ≤ sound.at
  pub there : data_start sound ≤ length b
  pub enough : extra sound ≤ size_at b sound.at
  pub kind : (sound.kind ≡ 1) ⊎ (sound.kind ≡ 9)
  pub extension : EndsBy sound.at sound.extension
  pub near : All IsByte b → sound.at ≤ 2 ^ 40

pub stands : (b : List ℕ) (h : Shape) (o : Opens b h) → Stands b h o.sound
stands b h o =
    let has = has_parts (size_at b o.sound.at) (length b) o.sound (formats_there b o.sound o.params o.read).0 in
    let start = begins b o.place o.first in
    let w : Walks b b 256 o.place None o.sound = walks b b o.sound (λ i lt. refl) (omega (arith, has.there)) 256 o.place None o.walked in
    record {
      start = ap (λ (s : Shape). s.start) o.shape;
      behind = omega (arith, w.later, start.behind);
      there = has.there;
      enough = has.enough;
      kind = w.kind;
      extension = w.extension tt;
      near = λ bytes.
          let few : number Little b 20 2 < 2 ^ 16 = number_fits Little b 20 2 bytes in
          omega (arith, w.near bytes, few, start.is);
    }

pub moved : (x b : List ℕ) (h : Shape) (o : Opens b h) → SameButSize (o.sound.at + 1) (data_start o.sound) x b → data_start o.sound ≤ length x → extra o.sound ≤ size_at x o.sound.at → voc_layout x ≡ Ok (voc_shape x o.sound o.params)
moved x b h o same within enough =
    let s = stands b h o in
    let parts = formats_there b o.sound o.params o.read in
    let has = has_parts (size_at b o.sound.at) (length b) o.sound parts.0 in
    let up_to : SameUpTo (o.sound.at + 1) x b = λ i lt. same i (omega arith) (inl lt) in
    let w : Walks x b 256 o.place None o.sound = walks x b o.sound up_to (omega (arith, within)) 256 o.place None o.walked in
    let first : first_place x ≡ Ok o.place = first_same x b o.place (begins b o.place o.first) (λ i lt. up_to i (omega (arith, s.behind))) (omega (arith, s.behind, within)) in
    let has_x : has_format (size_at x o.sound.at) (length x) o.sound ≡ true =
    and_from _ _ (and_from _ _ (le-leb (extra o.sound) (size_at x o.sound.at) enough) (le-leb (data_start o.sound) (length x) within)) has.long in
    let read : sound_format x o.sound ≡ Ok o.params = rw has_x (format_same x b o.sound same s.extension has.long ∙ parts.1) in
    opened x (voc_shape x o.sound o.params) (record { place = o.place; sound = o.sound; params = o.params; first = first; walked = w.new; read = read; shape = refl })
