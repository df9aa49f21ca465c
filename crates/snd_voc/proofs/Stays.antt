-- A file that keeps what stands before its data keeps its walk and its format.
use Rattle.std.proofs.Common.{◌≡◌, ◌⊎◌, ℕ, zero, suc, ◌+◌, ◌*◌, ◌<◌, ◌≤◌, ◌^◌, Bool, true, false, List, All, length, get_or, Option, None, Some, Ok, Err, refl, sym, ap, ◌∙◌, inl, inr, arith}
use Rattle.std.proofs.lemmas.Bool.{cases_Bool, eqb-true, le-leb}
use Rattle.std.specs.Prelude.{◌==◌, ◌||◌, IfSome, Result, nat_le, if◌then◌else◌}
use Rattle.snd_fields.proofs.Numbers.{number_fits, number_same}
use Rattle.snd_fields.specs.Laws.{IsByte}
use Rattle.snd_fields.specs.Field.{number}
use Rattle.snd_fields.specs.declared.field.Order.TheVariants.{Little}
use Rattle.snd_layout.specs.declared.refusal.OpenRefusal.{OpenRefusal}
use Rattle.snd_layout.specs.declared.refusal.OpenRefusal.TheVariants.{NoData, TooManyChunks}
use Rattle.snd_voc.specs.Layout.{from_seen, remembered, seen, seen_of, size_at, walk}
use Rattle.snd_voc.specs.declared.blocks.Block.{Block}
use Rattle.snd_voc.specs.declared.blocks.Seen.{Seen}
use Rattle.snd_voc.specs.declared.blocks.Seen.TheVariants.{Found, Refused, Passed}
use Rattle.snd_voc.specs.declared.blocks.Sound.{Sound}

-- two files have the same bytes up to a place
abbrev pub SameUpTo : ℕ → List ℕ → List ℕ → Type 0
SameUpTo n x b = (i : ℕ) → i < n → get_or x i 0 ≡ get_or b i 0

pub number_before : (n at k : ℕ) (x b : List ℕ) → SameUpTo n x b → at + k ≤ n → number Little x at k ≡ number Little b at k
number_before n at k x b same within = number_same Little k at at x b (λ i p q lt pe qe. rw (pe, qe) (same (at + i) (omega arith)))

abbrev is_sound : ℕ → Bool
is_sound kind = (kind == 1) || (kind == 9)

abbrev is_leading : ℕ → Bool
is_leading kind = (kind == 2) || (kind == 3) || (kind == 6) || (kind == 7)

seen_found : (k len place kind : ℕ) → seen_of k len place ≡ Found kind → (is_sound k ≡ true) × (kind ≡ k)
seen_found k len place kind is = elim (cases_Bool (is_sound k)) [
  | inl one ↦ (one, let h = rw one at is in cc)
  | inr other ↦ elim (cases_Bool (is_leading k)) [
    | inl two ↦ absurd (let h = rw (other, two) at is in cc)
    | inr three ↦ elim (cases_Bool (k == 0)) [
      | inl four ↦ absurd (let h = rw (other, three, four) at is in cc)
      | inr five ↦ absurd (let h = rw (other, three, five) at is in cc)
    ]
  ]
]

seen_found_too : (k len place kind : ℕ) → is_sound k ≡ true → kind ≡ k → seen_of k len place ≡ Found kind
seen_found_too k len place kind one is = rw (one, is) refl

record IsPassed (k len place : ℕ) (block : Block) : Type 0 where
  not_sound : is_sound k ≡ false
  not_leading : is_leading k ≡ false
  not_end : (k == 0) ≡ false
  is : record { kind = k; at = place + 4; len = len } ≡ block

seen_passed : (k len place : ℕ) (block : Block) → seen_of k len place ≡ Passed block → IsPassed k len place block
seen_passed k len place block is = elim (cases_Bool (is_sound k)) [
  | inl one ↦ absurd (let h = rw one at is in cc)
  | inr other ↦ elim (cases_Bool (is_leading k)) [
    | inl two ↦ absurd (let h = rw (other, two) at is in cc)
    | inr three ↦ elim (cases_Bool (k == 0)) [
      | inl four ↦ absurd (let h = rw (other, three, four) at is in cc)
      | inr five ↦ record {
        not_sound = other;
        not_leading = three;
        not_end = five;
        is = let h = rw (other, three, five) at is in cc;
      }
    ]
  ]
]

seen_passed_too : (k len place : ℕ) (block : Block) → IsPassed k len place block → seen_of k len place ≡ Passed block
seen_passed_too k len place block p = rw (p.not_sound, p.not_leading, p.not_end) (ap (λ (t : Block). Passed t) p.is)

-- a block ends by a place
abbrev pub EndsBy : ℕ → Option Block → Type 0
EndsBy place last = IfSome last (λ block. block.at + block.len ≤ place)

-- A walk that came to the sound goes the same way in a file with the same bytes up to there.
pub record Walks (x b : List ℕ) (n place : ℕ) (last : Option Block) (sound : Sound) : Type 0 where
  pub new : walk x n place last ≡ Ok sound
  pub later : place ≤ sound.at
  pub kind : (sound.kind ≡ 1) ⊎ (sound.kind ≡ 9)
  pub extension : EndsBy place last → EndsBy sound.at sound.extension
  pub near : All IsByte b → sound.at ≤ place + n * 2 ^ 25

one_or_nine : (k : ℕ) → is_sound k ≡ true → (k ≡ 1) ⊎ (k ≡ 9)
one_or_nine k is = elim (cases_Bool (k == 1)) [
  | inl one ↦ inl (eqb-true k 1 one)
  | inr other ↦ inr (eqb-true k 9 (let h = rw other at is in h))
]

ends_later : (last : Option Block) (place next : ℕ) → place ≤ next → EndsBy place last → EndsBy next last
ends_later None place next later ends = tt
ends_later (Some block) place next later ends = omega (arith, ends, later)

ends_too : (block : Block) (last : Option Block) (place : ℕ) → place ≤ block.at + block.len → EndsBy place last → EndsBy (block.at + block.len) (remembered block last)
ends_too block last place later ends = elim (cases_Bool (block.kind == 8)) [
  | inl eight ↦ rw eight (omega arith)
  | inr other ↦ rw other (ends_later last place (block.at + block.len) later ends)
]

zero_found : (x : List ℕ) (place : ℕ) (last : Option Block) (kind : ℕ) → seen x place ≡ Found kind → walk x 0 place last ≡ Ok (record { kind = kind; at = place; extension = last })
unfolding walk
zero_found x place last kind is = ap (λ (s : Seen). from_seen s place last (λ block. Err TooManyChunks)) is

abbrev onward : List ℕ → ℕ → Option Block → Block → Result Sound OpenRefusal
onward y n last block = if nat_le (block.at + block.len) (length y) then walk y n (block.at + block.len) (remembered block last) else Err NoData

pub suc_found : (x : List ℕ) (n place : ℕ) (last : Option Block) (kind : ℕ) → seen x place ≡ Found kind → walk x (suc n) place last ≡ Ok (record { kind = kind; at = place; extension = last })
unfolding walk
suc_found x n place last kind is = ap (λ (s : Seen). from_seen s place last (onward x n last)) is

suc_passed : (x : List ℕ) (n place : ℕ) (last : Option Block) (block : Block) → seen x place ≡ Passed block → block.at + block.len ≤ length x → walk x (suc n) place last ≡ walk x n (block.at + block.len) (remembered block last)
unfolding walk
suc_passed x n place last block is within =
    let test : nat_le (block.at + block.len) (length x) ≡ true = le-leb (block.at + block.len) (length x) within in
    ap (λ (s : Seen). from_seen s place last (onward x n last)) is ∙ rw test refl

module _ (x b : List ℕ) (sound : Sound) (same : SameUpTo (sound.at + 1) x b) (within : sound.at + 1 ≤ length x) where
  found_walks : (n place kind : ℕ) (last : Option Block) → seen b place ≡ Found kind → record { kind = kind; at = place; extension = last } ≡ sound → ((seen x place ≡ Found kind) → walk x n place last ≡ Ok sound) → Walks x b n place last sound
  found_walks n place kind last seen_is sound_is new =
      let f = seen_found (get_or b place 0) (size_at b place) place kind seen_is in
      let at_is : place ≡ sound.at = ap (λ (s : Sound). s.at) sound_is in
      let kind_is : kind ≡ sound.kind = ap (λ (s : Sound). s.kind) sound_is in
      let extension_is : last ≡ sound.extension = ap (λ (s : Sound). s.extension) sound_is in
      let byte : get_or x place 0 ≡ get_or b place 0 = same place (omega (arith, at_is)) in
      let sound_too : is_sound (get_or x place 0) ≡ true = ap is_sound byte ∙ f.0 in
      let seen_x : seen x place ≡ Found kind = seen_found_too (get_or x place 0) (size_at x place) place kind sound_too (f.1 ∙ sym byte) in
      record {
        new = new seen_x;
        later = omega (arith, at_is);
        kind = one_or_nine sound.kind (ap is_sound (sym kind_is ∙ f.1) ∙ f.0);
        extension = λ ends. rw (← extension_is, ← at_is) ends;
        near = λ bytes. omega (arith, at_is);
      }

  zero_walks : (place : ℕ) (last : Option Block) (s : Seen) → seen b place ≡ s → from_seen s place last (λ block. Err TooManyChunks) ≡ Ok sound → Walks x b 0 place last sound
  zero_walks place last (Found kind) seen_is is =
      let sound_is : record { kind = kind; at = place; extension = last } ≡ sound = cc in
      found_walks 0 place kind last seen_is sound_is (λ seen_x. zero_found x place last kind seen_x ∙ is)
  zero_walks place last (Refused refusal) seen_is is = absurd (cc)
  zero_walks place last (Passed block) seen_is is = absurd (cc)

  suc_walks : (n place : ℕ) (last : Option Block) (s : Seen) → ((next : ℕ) (last' : Option Block) → walk b n next last' ≡ Ok sound → Walks x b n next last' sound) → seen b place ≡ s
      → from_seen s place last (onward b n last) ≡ Ok sound → Walks x b (suc n) place last sound
  suc_walks n place last (Found kind) rest seen_is is =
      let sound_is : record { kind = kind; at = place; extension = last } ≡ sound = cc in
      found_walks (suc n) place kind last seen_is sound_is (λ seen_x. suc_found x n place last kind seen_x ∙ is)
  suc_walks n place last (Refused refusal) rest seen_is is = absurd (cc)
  suc_walks n place last (Passed block) rest seen_is is = elim (cases_Bool (nat_le (block.at + block.len) (length b))) [
    | inl ends ↦
        let on : walk b n (block.at + block.len) (remembered block last) ≡ Ok sound = rw ends at is in
        let further : Walks x b n (block.at + block.len) (remembered block last) sound = rest (block.at + block.len) (remembered block last) on in
        let p : IsPassed (get_or b place 0) (size_at b place) place block = seen_passed (get_or b place 0) (size_at b place) place block seen_is in
        let at_is : place + 4 ≡ block.at = ap (λ (t : Block). t.at) p.is in
        let len_is : size_at b place ≡ block.len = ap (λ (t : Block). t.len) p.is in
        let byte : get_or x place 0 ≡ get_or b place 0 = same place (omega (arith, at_is, further.later)) in
        let size : size_at x place ≡ size_at b place = number_before (sound.at + 1) (place + 1) 3 x b same (omega (arith, at_is, further.later)) in
        let seen_x : seen x place ≡ Passed block =
        ap (λ k. seen_of k (size_at x place) place) byte ∙ ap (λ k. seen_of (get_or b place 0) k place) size ∙ seen_passed_too (get_or b place 0) (size_at b place) place block p in
        record {
          new = suc_passed x n place last block seen_x (omega (arith, further.later, within)) ∙ further.new;
          later = omega (arith, at_is, further.later);
          kind = further.kind;
          extension = λ before. further.extension (ends_too block last place (omega (arith, at_is)) before);
          near = λ bytes.
              let few : number Little b (place + 1) 3 < 2 ^ 24 = number_fits Little b (place + 1) 3 bytes in
              omega (arith, further.near bytes, at_is, len_is, few);
        }
    | inr past ↦ absurd (let h = rw past at is in cc)
  ]

  pub walks : (n place : ℕ) (last : Option Block) → walk b n place last ≡ Ok sound → Walks x b n place last sound
  unfolding walk
  walks zero place last is = zero_walks place last (seen b place) refl is
  walks (suc n) place last is = suc_walks n place last (seen b place) (walks n) refl is
