use Rattle.std.proofs.Common.{◌≡◌, ℕ, ◌+◌, ◌*◌, ◌<◌, ◌≤◌, List, [], ◌∷◌, ◌++◌, length, get_or, drop, append_assoc, refl, sym, ap, ◌∙◌, arith, rules}
use Rattle.std.proofs.lemmas.List.{append-nil, same_lists, places}
use Rattle.snd_rules.specs.Hex.{bytes_of_hex, hex_value}
use Rattle.snd_rules.proofs.hex.bytes_of_hex.Goals as goal

one_more : (digits : List ℕ) → 2 ≤ length digits → bytes_of_hex digits ≡ (16 * hex_value (get_or digits 0 0) + hex_value (get_or digits 1 0)) ∷ bytes_of_hex (drop 2 digits)
unfolding bytes_of_hex
one_more [] le = absurd (omega arith)
one_more (x ∷ []) le = absurd (omega arith)
one_more (x ∷ y ∷ digits) le = refl

no_more : (digits : List ℕ) → length digits < 2 → bytes_of_hex digits ≡ []
unfolding bytes_of_hex
no_more [] lt = refl
no_more (x ∷ []) lt = refl
no_more (x ∷ y ∷ digits) lt = absurd (omega arith)

so_far : (done rest : List ℕ) (v : ℕ) (done' rest' all : List ℕ) → 2 ≤ length rest → done' ≡ done ++ v ∷ [] → v ≡ 16 * hex_value (get_or rest 0 0) + hex_value (get_or rest 1 0) → rest' ≡ drop 2 rest
    → done ++ bytes_of_hex rest ≡ all → done' ++ bytes_of_hex rest' ≡ all
so_far done rest v done' rest' all le pushed value left before =
    ap (λ d. d ++ bytes_of_hex rest') pushed ∙ append_assoc done (v ∷ []) (bytes_of_hex rest')
    ∙ ap (λ l. done ++ l) (ap (λ x. x ∷ bytes_of_hex rest') value ∙ ap (λ l. (16 * hex_value (get_or rest 0 0) + hex_value (get_or rest 1 0)) ∷ bytes_of_hex l) left ∙ sym (one_more rest le)) ∙ before

pub loop-rest-preserved : goal.loop-rest-preserved
loop-rest-preserved c =
    so_far c.loop-rest.bytes.items c.loop-rest.rest.now _ _ _ _ (omega arith) c.in_ok-push.ensures.items (search rules)
    (same_lists _ _ (grind (arith, places)) (λ k d lt. grind (arith, places))) c.loop-rest.invariant

pub returns : goal.returns
returns c = sym (append-nil c.loop-rest.bytes.items) ∙ ap (λ l. c.loop-rest.bytes.items ++ l) (sym (no_more c.loop-rest.rest.now (omega arith))) ∙ c.loop-rest.invariant
