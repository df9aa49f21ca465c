-- The items of a body, with no bound on their number.
use Rattle.std.proofs.Common.{ℕ, zero, suc, ◌≡◌, ◌<◌, ◌≤◌, ◌+◌, ◌%◌, ◌-◌, min, Bool, cond, nat_lt, List, [], ◌∷◌, length, take, drop, Option, Some, None, option_map, refl, sym, ap, ◌∙◌, arith, inl, inr}
use Rattle.std.proofs.lemmas.Bool.{cases_Bool, ltb-false, lt-ltb, le-ltb}
use Rattle.std.proofs.lemmas.List.{length-drop, length-take, drop-drop, drop_min, take_rest, take-take}
use Rattle.snd_meta.specs.Text.{text_of}
use Rattle.snd_meta.proofs.Texts.{text_whole, text_short}
use Rattle.snd_meta.specs.Info.{Item, IsItemAt, size_of, item_of, after_item, items_up_to, items_of}

pub after_item-shorter : (bytes : List ℕ) → length (after_item bytes) ≤ length bytes - 8
after_item-shorter bytes = omega (arith, length-drop (8 + size_of bytes + size_of bytes % 2) bytes)

-- one step, by what the two tests say
abbrev stepped : Bool → Bool → List ℕ → Option (List Item) → Option (List Item)
stepped short long bytes rest = cond short (Some []) (cond long None (option_map (λ items. item_of bytes ∷ items) rest))

-- two bounds that are great enough find the same
pub items_up_to-enough : (m n : ℕ) (bytes : List ℕ) → length bytes ≤ m → length bytes ≤ n → items_up_to m bytes ≡ items_up_to n bytes
unfolding items_up_to
items_up_to-enough zero zero bytes hm hn = refl
items_up_to-enough zero (suc n) bytes hm hn = rw (lt-ltb (length bytes) 8 (omega arith)) refl
items_up_to-enough (suc m) zero bytes hm hn = rw (lt-ltb (length bytes) 8 (omega arith)) refl
items_up_to-enough (suc m) (suc n) bytes hm hn = elim (cases_Bool (nat_lt (length bytes) 8)) [
  | inl short ↦ rw short refl
  | inr whole ↦
      let long : 8 ≤ length bytes = ltb-false (length bytes) 8 whole in
      let less : length (after_item bytes) ≤ length bytes - 8 = after_item-shorter bytes in
      ap (stepped (nat_lt (length bytes) 8) (nat_lt (length bytes) (8 + size_of bytes)) bytes)
      (items_up_to-enough m n (after_item bytes) (omega arith) (omega arith))
]

-- fewer than eight bytes hold no item
pub items_of-short : (bytes : List ℕ) → length bytes < 8 → items_of bytes ≡ Some []
unfolding items_of items_up_to
items_of-short bytes short = items_up_to-enough (length bytes) (suc (length bytes)) bytes (omega arith) (omega arith) ∙ rw (lt-ltb (length bytes) 8 short) refl

-- a text that runs past the end
pub items_of-cut : (bytes : List ℕ) → 8 ≤ length bytes → length bytes < 8 + size_of bytes → items_of bytes ≡ None
unfolding items_of items_up_to
items_of-cut bytes long cut =
    items_up_to-enough (length bytes) (suc (length bytes)) bytes (omega arith) (omega arith)
    ∙ rw (le-ltb (length bytes) 8 long, lt-ltb (length bytes) (8 + size_of bytes) cut) refl

-- an item, and those behind it
pub items_of-more : (bytes : List ℕ) → 8 ≤ length bytes → 8 + size_of bytes ≤ length bytes
    → items_of bytes ≡ option_map (λ items. item_of bytes ∷ items) (items_of (after_item bytes))
unfolding items_of items_up_to
items_of-more bytes long whole =
    items_up_to-enough (length bytes) (suc (length bytes)) bytes (omega arith) (omega arith)
    ∙ rw (le-ltb (length bytes) 8 long, le-ltb (length bytes) (8 + size_of bytes) whole) (
    ap (option_map (λ (items : List Item). item_of bytes ∷ items))
    (items_up_to-enough (length bytes) (length (after_item bytes)) (after_item bytes) (omega (arith, after_item-shorter bytes)) (omega arith)))

-- an item as it is cut from the bytes
pub item_cut : (bytes head rest text later found : List ℕ) (size pad : ℕ) → size ≡ size_of bytes → head ≡ take 8 bytes → rest ≡ drop 8 bytes
    → text ≡ take size rest → later ≡ drop size rest → found ≡ text_of text → pad ≡ min (size % 2) (length later) → 8 + size ≤ length bytes
    → IsItemAt bytes (take 4 head) found (take (length later - pad) (drop pad later))
item_cut bytes head rest text later found size pad is_size is_head is_rest is_text is_later is_found is_pad whole =
    let id : take 4 head ≡ take 4 bytes = ap (take 4) is_head ∙ take-take 4 8 bytes (omega arith) in
    let words : found ≡ text_of (take (size_of bytes) (drop 8 bytes)) = is_found ∙ ap text_of (is_text ∙ ap (take size) is_rest ∙ ap (λ n. take n (drop 8 bytes)) is_size) in
    record {
      whole = omega arith;
      item = ap (λ i. record { id = i; text = found }) id ∙ ap (λ t. record { id = take 4 bytes; text = t }) words;
      rest = take_rest later pad ∙ ap (λ n. drop n later) is_pad ∙ drop_min (size % 2) later
          ∙ ap (drop (size % 2)) (is_later ∙ ap (drop size) is_rest ∙ drop-drop size 8 bytes) ∙ drop-drop (size % 2) (8 + size) bytes
          ∙ ap (λ n. drop (8 + n + n % 2) bytes) is_size;
    }

-- the text of an item has no 0
pub item_text : (bytes id text later : List ℕ) → IsItemAt bytes id text later → text_of text ≡ text
item_text bytes id text later found =
    let e : text ≡ (item_of bytes).text = ap (λ (i : Item). i.text) found.item in
    ap text_of e ∙ text_whole (take (size_of bytes) (drop 8 bytes)) ∙ sym e

-- it is no longer than the bytes
pub item_short : (bytes id text later : List ℕ) → IsItemAt bytes id text later → length text ≤ length bytes
item_short bytes id text later found =
    let e : text ≡ (item_of bytes).text = ap (λ (i : Item). i.text) found.item in
    omega (arith, ap length e, text_short (take (size_of bytes) (drop 8 bytes)), length-take (size_of bytes) (drop 8 bytes), length-drop 8 bytes)
