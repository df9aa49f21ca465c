-- A list that items complete.
use Rattle.std.proofs.Common.{ℕ, ◌≡◌, ◌<◌, ◌≤◌, ◌+◌, Bool, true, false, cond, List, [], ◌∷◌, length, Option, Some, None, option_map, Bor, refl, sym, ap, ◌∙◌, inl, inr}
use Rattle.std.specs.Prelude.{find}
use Rattle.std.specs.Option.{option_or, is_some}
use Rattle.snd_meta.specs.declared.text.Text.{Text}
use Rattle.std.specs.Str.{bytes_eq}
use Rattle.std.proofs.lemmas.Bool.{cases_Bool}
use Rattle.std.proofs.lemmas.Option.{none-some, same_Some}
use Rattle.std.proofs.lemmas.Slice.Eq.{bytes_eq-Decides}
use Rattle.snd_meta.specs.declared.info.InfoKey.{InfoKey}
use Rattle.snd_meta.specs.declared.info.InfoKey.TheVariants.{Title, Copyright, Software, Artist, Comment, Date, Album, Genre, Track}
use Rattle.snd_meta.specs.Info.{Entry, Item, IsItemAt, size_of, item_of, after_item, items_of, table, same_key, id_of, key_of, listed, text_under, with_text, first_text, completed}
use Rattle.snd_meta.proofs.Items.{items_of-short, items_of-cut, items_of-more}
use Rattle.snd_meta.proofs.Keys.{all_keys, among, listed-same, same_key-true, under-listed}

-- two keys have one id only if they are one
pub ids_apart : (a b : InfoKey) → bytes_eq (id_of a) (id_of b) ≡ same_key a b
ids_apart Title Title = refl
ids_apart Copyright Copyright = refl
ids_apart Software Software = refl
ids_apart Artist Artist = refl
ids_apart Comment Comment = refl
ids_apart Date Date = refl
ids_apart Album Album = refl
ids_apart Genre Genre = refl
ids_apart Track Track = refl
ids_apart _ _ = refl

-- ---- one step more of the items

regroup : (held : Option (List ℕ)) (here : Bool) (text : List ℕ) (later : Option (List ℕ))
    → option_or (option_or held (cond here (Some text) None)) later ≡ option_or held (cond here (Some text) later)
regroup (Some t) here text later = refl
regroup None true text later = refl
regroup None false text later = refl

pub completed-more : (es : List Entry) (item : Item) (items : List Item) → completed (completed es (item ∷ [])) items ≡ completed es (item ∷ items)
completed-more es item items = listed-same _ _ (λ key.
    ap (λ held. option_or held (first_text (id_of key) items)) (under-listed (λ k. option_or (text_under k es) (first_text (id_of k) (item ∷ []))) key)
    ∙ regroup (text_under key es) (bytes_eq item.id (id_of key)) item.text (first_text (id_of key) items))

option_or-none : (held : Option (List ℕ)) → option_or held None ≡ held
option_or-none (Some t) = refl
option_or-none None = refl

pub completed-nil : (es : List Entry) → listed (λ key. text_under key es) ≡ es → completed es [] ≡ es
completed-nil es ordered = listed-same _ _ (λ key. option_or-none (text_under key es)) ∙ ordered

-- ---- one item

-- an item under an unknown id is passed over
pub completed-unknown : (es : List Entry) (item : Item) → listed (λ key. text_under key es) ≡ es → ((key : InfoKey) → bytes_eq item.id (id_of key) ≡ false) → completed es (item ∷ []) ≡ es
completed-unknown es item ordered unknown = listed-same _ _ (λ key. rw (unknown key) (option_or-none (text_under key es))) ∙ ordered

-- of a repeated id the first counts
pub completed-held : (es : List Entry) (item : Item) (key : InfoKey) (t : List ℕ) → listed (λ key. text_under key es) ≡ es → item.id ≡ id_of key → text_under key es ≡ Some t
    → completed es (item ∷ []) ≡ es
completed-held es item key t ordered known held = listed-same _ _ (λ k. elim (cases_Bool (same_key key k)) [
  | inl same ↦
      let e : key ≡ k = same_key-true key k same in
      let there : text_under k es ≡ Some t = ap (λ q. text_under q es) (sym e) ∙ held in
      rw there refl
  | inr other ↦
      let apart : bytes_eq item.id (id_of k) ≡ false = ap (λ id. bytes_eq id (id_of k)) known ∙ ids_apart key k ∙ other in
      rw apart (option_or-none (text_under k es))
]) ∙ ordered

-- the same, where the text was read through a reference
pub completed-seen : (es : List Entry) (item : Item) (key : InfoKey) (r : Option (Bor Text)) → listed (λ key. text_under key es) ≡ es → item.id ≡ id_of key
    → option_map (λ text. text.now.bytes.items) r ≡ text_under key es → is_some r ≡ true → es ≡ completed es (item ∷ [])
completed-seen es item key (Some t) ordered known seen some = sym (completed-held es item key t.now.bytes.items ordered known (sym seen))
completed-seen es item key None ordered known seen some = cc

-- a text that was not there
pub completed-new : (es : List Entry) (item : Item) (key : InfoKey) → item.id ≡ id_of key → text_under key es ≡ None
    → completed es (item ∷ []) ≡ with_text key item.text es
completed-new es item key known absent = listed-same _ _ (λ k. elim (cases_Bool (same_key key k)) [
  | inl same ↦
      let e : key ≡ k = same_key-true key k same in
      let none : text_under k es ≡ None = ap (λ q. text_under q es) (sym e) ∙ absent in
      let here : bytes_eq item.id (id_of k) ≡ true = ap (λ id. bytes_eq id (id_of k)) known ∙ ids_apart key k ∙ same in
      rw (same, none, here) refl
  | inr other ↦
      let apart : bytes_eq item.id (id_of k) ≡ false = ap (λ id. bytes_eq id (id_of k)) known ∙ ids_apart key k ∙ other in
      rw (other, apart) (option_or-none (text_under k es))
])

pub completed-unseen : (es : List Entry) (item : Item) (key : InfoKey) (r : Option (Bor Text)) → item.id ≡ id_of key
    → option_map (λ text. text.now.bytes.items) r ≡ text_under key es → is_some r ≡ false → with_text key item.text es ≡ completed es (item ∷ [])
completed-unseen es item key (Some t) known seen none = cc
completed-unseen es item key None known seen none = sym (completed-new es item key known (sym seen))

-- ---- the key of an id, looked for in the table

found_in : (id : List ℕ) (key : InfoKey) (keys : List InfoKey) → find (λ k. bytes_eq id (id_of k)) keys ≡ Some key → id ≡ id_of key
found_in id key [] found = cc
found_in id key (k ∷ keys) found = elim (cases_Bool (bytes_eq id (id_of k))) [
  | inl here ↦
      let e : k ≡ key = same_Some k key (rw here at found) in
      (bytes_eq-Decides id (id_of k)).0 here ∙ ap id_of e
  | inr other ↦ found_in id key keys (rw other at found)
]

missed_in : (id : List ℕ) (key : InfoKey) (keys : List InfoKey) → find (λ k. bytes_eq id (id_of k)) keys ≡ None → among key keys ≡ true → bytes_eq id (id_of key) ≡ false
missed_in id key [] none there = cc
missed_in id key (k ∷ keys) none there = elim (cases_Bool (bytes_eq id (id_of k))) [
  | inl here ↦ absurd (none-some k (sym (rw here at none)))
  | inr other ↦ elim (cases_Bool (same_key k key)) [
    | inl same ↦ ap (λ q. bytes_eq id (id_of q)) (sym (same_key-true k key same)) ∙ other
    | inr apart ↦ missed_in id key keys (rw other at none) (rw apart at there)
  ]
]

pub found_key : (id : List ℕ) (key : InfoKey) → key_of id ≡ Some key → id ≡ id_of key
unfolding key_of
found_key id key found = found_in id key table found

pub no_key : (id : List ℕ) → key_of id ≡ None → (key : InfoKey) → bytes_eq id (id_of key) ≡ false
unfolding key_of
no_key id none key = missed_in id key table none (all_keys key)

-- ---- one item read

moved : (es next : List Entry) (item : Item) (items : Option (List Item)) → next ≡ completed es (item ∷ [])
    → option_map (completed next) items ≡ option_map (completed es) (option_map (λ later. item ∷ later) items)
moved es next item None e = refl
moved es next item (Some items) e = ap Some (ap (λ list. completed list items) e ∙ completed-more es item items)

-- a list completed by the item at the front needs only those behind it
pub completed-step : (es next : List Entry) (rest id text later : List ℕ) → 8 ≤ length rest → IsItemAt rest id text later
    → next ≡ completed es (record { id = id; text = text } ∷ [])
    → option_map (completed next) (items_of later) ≡ option_map (completed es) (items_of rest)
completed-step es next rest id text later long found e =
    ap (λ bytes. option_map (completed next) (items_of bytes)) found.rest
    ∙ moved es next (item_of rest) (items_of (after_item rest)) (e ∙ ap (λ item. completed es (item ∷ [])) found.item)
    ∙ ap (option_map (completed es)) (sym (items_of-more rest long found.whole))

-- the end of the items
pub completed-end : (es : List Entry) (rest : List ℕ) → listed (λ key. text_under key es) ≡ es → length rest < 8 → option_map (completed es) (items_of rest) ≡ Some es
completed-end es rest ordered short = ap (option_map (completed es)) (items_of-short rest short) ∙ ap Some (completed-nil es ordered)

none_completed : (es : List Entry) (items : Option (List Item)) → option_map (completed es) items ≡ None → items ≡ None
none_completed es None e = refl
none_completed es (Some items) e = absurd (none-some (completed es items) (sym e))

-- a text that runs past the end, among the items behind the first ones
pub completed-cut : (es : List Entry) (rest all : List ℕ) → 8 ≤ length rest → length rest < 8 + size_of rest
    → option_map (completed es) (items_of rest) ≡ option_map (completed []) (items_of all) → items_of all ≡ None
completed-cut es rest all long cut same = none_completed [] (items_of all) (sym same ∙ ap (option_map (completed es)) (items_of-cut rest long cut))
