-- The bytes of a list's texts.
use Rattle.std.proofs.Common.{ℕ, ◌≡◌, ◌<◌, ◌≤◌, ◌+◌, List, ◌∷◌, ◌++◌, length, drop, get_or, Some, None, option_map, sym, ap, ◌∙◌}
use Rattle.std.specs.Prelude.{codes}
use Rattle.std.specs.List.{cons_option, flat_map}
use Rattle.std.proofs.lemmas.List.{append_assoc, append-nil, drop_all, drop_more}
use Rattle.snd_meta.specs.declared.info.InfoKey.{InfoKey}
use Rattle.snd_meta.specs.Info.{Entry, table, listed, text_under, item_bytes, info_body}
use Rattle.snd_meta.proofs.Keys.{over}

-- the bytes of the texts that a list has of some keys
unfoldable pub bytes_under : List InfoKey → List Entry → List ℕ
bytes_under keys es = flat_map item_bytes (over keys (λ key. text_under key es))

pub body_start : (es : List Entry) (body : List ℕ) → listed (λ key. text_under key es) ≡ es → body ≡ codes "INFO" → body ++ bytes_under table es ≡ info_body es
unfolding bytes_under over listed info_body
body_start es body ordered e = ap (λ b. b ++ flat_map item_bytes (listed (λ key. text_under key es))) e ∙ ap (λ list. codes "INFO" ++ flat_map item_bytes list) ordered

with_key : (key : InfoKey) (keys : List InfoKey) (es : List Entry) (t : List ℕ) → Some t ≡ text_under key es
    → bytes_under (key ∷ keys) es ≡ item_bytes (record { key = key; text = t }) ++ bytes_under keys es
unfolding bytes_under over
with_key key keys es t there =
    ap (λ o. flat_map item_bytes (cons_option (option_map (λ text. record { key = key; text = text }) o) (over keys (λ k. text_under k es)))) (sym there)

without_key : (key : InfoKey) (keys : List InfoKey) (es : List Entry) → None ≡ text_under key es → bytes_under (key ∷ keys) es ≡ bytes_under keys es
unfolding bytes_under over
without_key key keys es absent =
    ap (λ o. flat_map item_bytes (cons_option (option_map (λ text. record { key = key; text = text }) o) (over keys (λ k. text_under k es)))) (sym absent)

-- one key more, whose text was written
pub body_more : (keys : List InfoKey) (i : ℕ) (d : InfoKey) (es : List Entry) (t body next : List ℕ) → i < length keys → Some t ≡ text_under (get_or keys i d) es
    → next ≡ body ++ item_bytes (record { key = get_or keys i d; text = t }) → next ++ bytes_under (drop (i + 1) keys) es ≡ body ++ bytes_under (drop i keys) es
body_more keys i d es t body next within there e =
    ap (λ b. b ++ bytes_under (drop (i + 1) keys) es) e
    ∙ append_assoc body (item_bytes (record { key = get_or keys i d; text = t })) (bytes_under (drop (i + 1) keys) es)
    ∙ ap (λ b. body ++ b) (sym (with_key (get_or keys i d) (drop (i + 1) keys) es t there) ∙ ap (λ ks. bytes_under ks es) (sym (drop_more keys i d within)))

-- one key more, of which there is no text
pub body_same : (keys : List InfoKey) (i : ℕ) (d : InfoKey) (es : List Entry) (body next : List ℕ) → i < length keys → None ≡ text_under (get_or keys i d) es → next ≡ body
    → next ++ bytes_under (drop (i + 1) keys) es ≡ body ++ bytes_under (drop i keys) es
body_same keys i d es body next within absent e =
    ap (λ b. b ++ bytes_under (drop (i + 1) keys) es) e
    ∙ ap (λ b. body ++ b) (sym (without_key (get_or keys i d) (drop (i + 1) keys) es absent) ∙ ap (λ ks. bytes_under ks es) (sym (drop_more keys i d within)))

-- no key is left
pub body_end : (keys : List InfoKey) (i : ℕ) (es : List Entry) (body whole : List ℕ) → length keys ≤ i → body ++ bytes_under (drop i keys) es ≡ whole → body ≡ whole
unfolding bytes_under over
body_end keys i es body whole past e = sym (append-nil body) ∙ ap (λ ks. body ++ bytes_under ks es) (sym (drop_all i keys past)) ∙ e
