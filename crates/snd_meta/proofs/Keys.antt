-- The texts of a list, by their keys.
use Rattle.std.proofs.Common.{ℕ, ◌≡◌, ◌≢◌, ◌<◌, ◌≤◌, Bool, true, false, cond, List, [], ◌∷◌, length, get_or, set, Option, Some, None, option_map, Bor, refl, sym, ap, subst, ◌∙◌, arith, inl, inr}
use Rattle.std.specs.Option.{option_copied}
use Rattle.std.specs.Array.{AllZipBelow}
use Rattle.std.specs.List.{AllByRecursion, cons_option, filter_map}
use Rattle.std.proofs.lemmas.Bool.{cases_Bool}
use Rattle.std.proofs.lemmas.Option.{same_Some}
use Rattle.std.proofs.lemmas.Bool.Decides.{nat_tests}
use Rattle.std.proofs.lemmas.List.{get_or-set_same, get_or-set_other, get_or_default}
use Rattle.snd_meta.specs.declared.info.InfoKey.{InfoKey}
use Rattle.snd_meta.specs.declared.info.InfoKey.TheVariants.{Title, Copyright, Software, Artist, Comment, Date, Album, Genre, Track}
use Rattle.snd_meta.specs.declared.text.Text.{Text}
use Rattle.snd_meta.specs.Info.{Entry, table, place_of, same_key, listed, text_under, with_text, IsInfo}
use Rattle.snd_meta.specs.Text.{text_of, IsTextWithin}
use Rattle.snd_meta.specs.Slots.{text_in}

key_at_place : (key : InfoKey) → get_or table (place_of key) Title ≡ key
key_at_place Title = refl
key_at_place Copyright = refl
key_at_place Software = refl
key_at_place Artist = refl
key_at_place Comment = refl
key_at_place Date = refl
key_at_place Album = refl
key_at_place Genre = refl
key_at_place Track = refl

pub place_within : (key : InfoKey) → place_of key < 9
place_within Title = omega arith
place_within Copyright = omega arith
place_within Software = omega arith
place_within Artist = omega arith
place_within Comment = omega arith
place_within Date = omega arith
place_within Album = omega arith
place_within Genre = omega arith
place_within Track = omega arith

pub same_key-true : (a b : InfoKey) → same_key a b ≡ true → a ≡ b
same_key-true a b h =
    let places : place_of a ≡ place_of b = grind (arith, nat_tests) in
    sym (key_at_place a) ∙ ap (λ n. get_or table n Title) places ∙ key_at_place b

-- ---- the texts that a function gives

-- the same of some keys
unfoldable pub over : List InfoKey → (InfoKey → Option (List ℕ)) → List Entry
over keys f = filter_map (λ key. option_map (λ t. record { key = key; text = t }) (f key)) keys

over-same : (keys : List InfoKey) (f g : InfoKey → Option (List ℕ)) → ((key : InfoKey) → f key ≡ g key) → over keys f ≡ over keys g
unfolding over
over-same [] f g h = refl
over-same (key ∷ keys) f g h = rw (h key, over-same keys f g h) refl

-- functions that give the same texts give one list
pub listed-same : (f g : InfoKey → Option (List ℕ)) → ((key : InfoKey) → f key ≡ g key) → listed f ≡ listed g
unfolding listed over
listed-same f g h = over-same table f g h

-- whether a key is in a list
abbrev pub among : InfoKey → List InfoKey → Bool
among key [] = false
among key (k ∷ keys) = cond (same_key k key) true (among key keys)

cond_none : (b : Bool) → ◌≡◌ {A = Option (List ℕ)} (cond b None None) None
cond_none true = refl
cond_none false = refl

-- one key more, whose text is o
under_more : (k key : InfoKey) (f : InfoKey → Option (List ℕ)) (there : Bool) (es : List Entry) (o : Option (List ℕ)) → f k ≡ o
    → text_under key es ≡ cond there (f key) None
    → text_under key (cons_option (option_map (λ t. record { key = k; text = t }) o) es) ≡ cond (cond (same_key k key) true there) (f key) None
under_more k key f there es None e rest = elim (cases_Bool (same_key k key)) [
  | inl same ↦
      let none : f key ≡ None = ap f (sym (same_key-true k key same)) ∙ e in
      rw (rest, same, none) (cond_none there)
  | inr other ↦ rw other rest
]
under_more k key f there es (Some t) e rest = elim (cases_Bool (same_key k key)) [
  | inl same ↦
      let some : f key ≡ Some t = ap f (sym (same_key-true k key same)) ∙ e in
      rw (same, some) refl
  | inr other ↦ rw other rest
]

under-over : (keys : List InfoKey) (f : InfoKey → Option (List ℕ)) (key : InfoKey) → text_under key (over keys f) ≡ cond (among key keys) (f key) None
unfolding over
under-over [] f key = refl
under-over (k ∷ keys) f key = under_more k key f (among key keys) (over keys f) (f k) refl (under-over keys f key)

pub all_keys : (key : InfoKey) → among key table ≡ true
all_keys Title = refl
all_keys Copyright = refl
all_keys Software = refl
all_keys Artist = refl
all_keys Comment = refl
all_keys Date = refl
all_keys Album = refl
all_keys Genre = refl
all_keys Track = refl

-- a list has the texts that it was made of
pub under-listed : (f : InfoKey → Option (List ℕ)) (key : InfoKey) → text_under key (listed f) ≡ f key
unfolding listed over
under-listed f key = under-over table f key ∙ ap (λ b. cond b (f key) None) (all_keys key)

-- such a list is in the order of the table
pub listed-listed : (f : InfoKey → Option (List ℕ)) (es : List Entry) → es ≡ listed f → listed (λ key. text_under key es) ≡ es
listed-listed f es e = listed-same (λ key. text_under key es) f (λ key. ap (text_under key) e ∙ under-listed f key) ∙ sym e

-- ---- the places that hold the texts

-- what is held at a key's place is the key's text
pub text_held : (slots : List (Option Text)) (es : List Entry) (key : InfoKey) (n : ℕ) (d slot : Option Text) → listed (text_in slots) ≡ es → length slots ≡ 9
    → n ≡ place_of key → get_or slots n d ≡ slot → text_under key es ≡ option_map (λ t. t.bytes.items) slot
text_held slots es key n d slot whole nine at held =
    ap (text_under key) (sym whole) ∙ under-listed (text_in slots) key
    ∙ ap (option_map (λ (t : Text). t.bytes.items)) (get_or_default slots (place_of key) None d (omega (arith, place_within key)) ∙ ap (λ k. get_or slots k d) (sym at) ∙ held)

-- a text put at a key's place
pub text_put : (slots : List (Option Text)) (es : List Entry) (key : InfoKey) (n : ℕ) (text : Text) → listed (text_in slots) ≡ es → length slots ≡ 9
    → n ≡ place_of key → listed (text_in (set slots n (Some text))) ≡ with_text key text.bytes.items es
text_put slots es key n text whole nine at = rw at (listed-same (text_in (set slots (place_of key) (Some text))) (λ k. cond (same_key key k) (Some text.bytes.items) (text_under k es)) (λ k. elim (cases_Bool (same_key key k)) [
  | inl same ↦
      let e : key ≡ k = same_key-true key k same in
      let within : place_of key < length slots = omega (arith, place_within key) in
      rw (same, ← e, get_or-set_same) refl
  | inr other ↦
      let ne : place_of k ≢ place_of key = grind (arith, nat_tests) in
      rw (other, get_or-set_other) (sym (under-listed (text_in slots) k) ∙ ap (text_under k) whole)
]))

-- a list of what some keys have
over-each : (keys : List InfoKey) (f : InfoKey → Option (List ℕ)) → ((key : InfoKey) (t : List ℕ) → f key ≡ Some t → IsTextWithin 65536 t)
    → AllByRecursion (λ e. IsTextWithin 65536 e.text) (over keys f)
unfolding over
over-each [] f each = tt
over-each (key ∷ keys) f each = with_each key keys f each (f key) refl (over-each keys f each)
  where
    with_each : (k : InfoKey) (ks : List InfoKey) (g : InfoKey → Option (List ℕ)) → ((q : InfoKey) (t : List ℕ) → g q ≡ Some t → IsTextWithin 65536 t)
        → (o : Option (List ℕ)) → g k ≡ o → AllByRecursion (λ e. IsTextWithin 65536 e.text) (over ks g)
        → AllByRecursion (λ e. IsTextWithin 65536 e.text) (cons_option (option_map (λ t. record { key = k; text = t }) o) (over ks g))
    with_each k ks g h None e rest = rest
    with_each k ks g h (Some t) e rest = (h k t e, rest)

-- the list of the texts that a function gives is one that a draft can hold
pub is_info : (f : InfoKey → Option (List ℕ)) (es : List Entry) → es ≡ listed f → ((key : InfoKey) (t : List ℕ) → f key ≡ Some t → IsTextWithin 65536 t) → IsInfo es
unfolding listed over
is_info f es e each = record { in_order = listed-listed f es e; texts = let P : List Entry → Type 0 = λ list. AllByRecursion (λ x. IsTextWithin 65536 x.text) list in subst P (sym e) (over-each table f each) }

is_text : (o : Option Text) (t : List ℕ) → option_map (λ text. text.bytes.items) o ≡ Some t → IsTextWithin 65536 t
is_text None t e = cc
is_text (Some text) t e =
    let same : text.bytes.items ≡ t = same_Some text.bytes.items t e in
    record { no_zero = ap text_of (sym same) ∙ text.no_zero ∙ same; short = let P : List ℕ → Type 0 = λ x. length x ≤ 65536 in subst P same text.short }

-- an empty list
pub empty_info : (es : List Entry) → es ≡ [] → IsInfo es
unfolding listed
empty_info es e = is_info (λ key. None) es e (λ key t none. cc)

-- what places hold
pub held_info : (slots : List (Option Text)) (es : List Entry) → listed (text_in slots) ≡ es → IsInfo es
held_info slots es whole = is_info (text_in slots) es (sym whole) (λ key t e. is_text (get_or slots (place_of key) None) t e)

-- a text read through a reference
pub read_text : (r : Option (Bor Text)) → option_map (λ text. text.now.bytes.items) r ≡ option_map (λ t. t.bytes.items) (option_copied r)
read_text None = refl
read_text (Some r) = refl

copied : (R : Option Text → Option Text → Type 0) → ((t u : Text) → R (Some t) (Some u) → u.bytes.items ≡ t.bytes.items)
    → ((t : Text) → R (Some t) None → ⊥) → ((u : Text) → R None (Some u) → ⊥)
    → (o p : Option Text) → R o p → option_map (λ t. t.bytes.items) p ≡ option_map (λ t. t.bytes.items) o
copied R both lost made None None h = refl
copied R both lost made None (Some u) h = absurd (made u h)
copied R both lost made (Some t) None h = absurd (lost t h)
copied R both lost made (Some t) (Some u) h = ap Some (both t u h)

-- clones of the texts make an equal list
pub same_clones : {R : Option Text → Option Text → Type 0} (slots copies : List (Option Text)) (es : List Entry) → listed (text_in slots) ≡ es
    → AllZipBelow R slots copies 9 → ((t u : Text) → R (Some t) (Some u) → u.bytes.items ≡ t.bytes.items)
    → ((t : Text) → R (Some t) None → ⊥) → ((u : Text) → R None (Some u) → ⊥) → listed (text_in copies) ≡ es
same_clones {R} slots copies es whole clones both lost made =
    listed-same (text_in copies) (text_in slots) (λ key. copied R both lost made _ _ (clones.at (place_of key) None None (place_within key))) ∙ whole
