-- The texts of a list, key by key in the order of the table.
use Rattle.std.proofs.Common.{ℕ, ◌≡◌, ◌<◌, ◌≤◌, ◌+◌, ◌⊎◌, Bor, true, false, List, [], ◌∷◌, ◌++◌, length, drop, get_or, Option, Some, None, option_map, inl, inr, refl, sym, ap, ◌∙◌, arith}
use Rattle.std.specs.List.{cons_option, filter_map}
use Rattle.std.specs.Option.{is_some, option_copied}
use Rattle.std.proofs.lemmas.List.{append_assoc, append-nil, at_drop_more, drop_all}
use Rattle.snd_meta.specs.declared.info.InfoKey.{InfoKey}
use Rattle.snd_meta.specs.Info.{Entry, table, listed, text_under, IsInfo}
use Rattle.snd_lines.specs.Lines.{behind_each, info_word, line, shown, text_line}

-- the entry of a text, if there is one
abbrev pub entry_of : InfoKey → Option (List ℕ) → Option Entry
entry_of key text = option_map (λ t. record { key = key; text = t }) text

-- the texts that a list has of some keys
unfoldable pub entries_under : List InfoKey → List Entry → List Entry
entries_under keys es = filter_map (λ key. entry_of key (text_under key es)) keys

-- their lines
abbrev pub lines_under : List ℕ → List InfoKey → List Entry → List ℕ
lines_under words keys es = behind_each words text_line (entries_under keys es)

-- all keys have the whole list
pub of_table : (es : List Entry) → IsInfo es → entries_under table es ≡ es
unfolding entries_under listed
of_table es info = info.in_order

-- the first of some keys, and the others
pub first_key : (key : InfoKey) (keys : List InfoKey) (es : List Entry) → entries_under (key ∷ keys) es ≡ cons_option (entry_of key (text_under key es)) (entries_under keys es)
unfolding entries_under
first_key key keys es = refl

-- the key at a place, and those behind it
pub next_key : (keys : List InfoKey) (i : ℕ) (d : InfoKey) (es : List Entry) (o : Option (List ℕ)) → i < length keys → o ≡ text_under (get_or keys i d) es
    → entries_under (drop i keys) es ≡ cons_option (entry_of (get_or keys i d) o) (entries_under (drop (i + 1) keys) es)
next_key keys i d es o within there =
    at_drop_more (λ ks. entries_under ks es) keys i d within ∙ first_key (get_or keys i d) (drop (i + 1) keys) es
    ∙ ap (λ t. cons_option (entry_of (get_or keys i d) t) (entries_under (drop (i + 1) keys) es)) (sym there)

-- no key is left
pub no_key : (keys : List InfoKey) (i : ℕ) (es : List Entry) → length keys ≤ i → entries_under (drop i keys) es ≡ []
unfolding entries_under
no_key keys i es past = ap (λ ks. entries_under ks es) (drop_all i keys past)

-- after all keys a list is known to be in their order
pub known : (i : ℕ) (es : List Entry) → 9 ≤ i → (i ≡ 0) ⊎ IsInfo es → IsInfo es
known i es past (inl none) = absurd (omega arith)
known i es past (inr info) = info

-- ---- counting

-- one text more
pub count_more : (keys : List InfoKey) (i : ℕ) (d : InfoKey) (es : List Entry) (r : Option (Bor (List ℕ))) (n : ℕ) → i < length keys
    → option_copied r ≡ text_under (get_or keys i d) es → true ≡ is_some r
    → n + 1 + length (entries_under (drop (i + 1) keys) es) ≡ n + length (entries_under (drop i keys) es)
count_more keys i d es None n within there some = cc
count_more keys i d es (Some r) n within there some = omega (arith, ap length (next_key keys i d es (Some r.now) within there))

-- a key without a text
pub count_same : (keys : List InfoKey) (i : ℕ) (d : InfoKey) (es : List Entry) (r : Option (Bor (List ℕ))) (n : ℕ) → i < length keys
    → option_copied r ≡ text_under (get_or keys i d) es → false ≡ is_some r
    → n + length (entries_under (drop (i + 1) keys) es) ≡ n + length (entries_under (drop i keys) es)
count_same keys i d es None n within there none = ap (λ list. n + length list) (sym (next_key keys i d es None within there))
count_same keys i d es (Some r) n within there none = cc

-- no key is left
pub count_end : (keys : List InfoKey) (i : ℕ) (es : List Entry) (n : ℕ) → length keys ≤ i → IsInfo es
    → n + length (entries_under (drop i keys) es) ≡ length (entries_under table es) → n ≡ length es
count_end keys i es n past info e = omega (arith, ap length (no_key keys i es past), ap length (of_table es info))

-- ---- printing

-- one line more
pub print_more : (words : List ℕ) (keys : List InfoKey) (i : ℕ) (d : InfoKey) (es : List Entry) (t old worded new : List ℕ) → i < length keys
    → Some t ≡ text_under (get_or keys i d) es → worded ≡ old ++ words → new ≡ worded ++ line (info_word (get_or keys i d)) (shown t)
    → new ++ lines_under words (drop (i + 1) keys) es ≡ old ++ lines_under words (drop i keys) es
print_more words keys i d es t old worded new within there e f =
    let key : InfoKey = get_or keys i d in
    let rest : List ℕ = lines_under words (drop (i + 1) keys) es in
    let one : List ℕ = line (info_word key) (shown t) in
    ap (λ b. b ++ rest) (f ∙ ap (λ b. b ++ one) e ∙ append_assoc old words one) ∙ append_assoc old (words ++ one) rest
    ∙ ap (λ list. old ++ behind_each words text_line list) (sym (next_key keys i d es (Some t) within there))

-- a key without a text
pub print_same : (words : List ℕ) (keys : List InfoKey) (i : ℕ) (d : InfoKey) (es : List Entry) (old new : List ℕ) → i < length keys
    → None ≡ text_under (get_or keys i d) es → new ≡ old
    → new ++ lines_under words (drop (i + 1) keys) es ≡ old ++ lines_under words (drop i keys) es
print_same words keys i d es old new within there e =
    ap (λ b. b ++ lines_under words (drop (i + 1) keys) es) e
    ∙ ap (λ list. old ++ behind_each words text_line list) (sym (next_key keys i d es None within there))

-- no key is left
pub print_end : (words : List ℕ) (keys : List InfoKey) (i : ℕ) (es : List Entry) (old new : List ℕ) → length keys ≤ i → IsInfo es
    → new ++ lines_under words (drop i keys) es ≡ old ++ lines_under words table es → new ≡ old ++ behind_each words text_line es
print_end words keys i es old new past info e =
    sym (append-nil new) ∙ ap (λ list. new ++ behind_each words text_line list) (sym (no_key keys i es past)) ∙ e
    ∙ ap (λ list. old ++ behind_each words text_line list) (of_table es info)
