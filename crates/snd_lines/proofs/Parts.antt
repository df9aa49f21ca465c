-- Parts that are appended one behind the other.
use Rattle.std.proofs.Common.{ℕ, ◌≡◌, ◌<◌, ◌+◌, length, List, ◌++◌, drop, Some, sym, ap, ◌∙◌, decimal}
use Rattle.std.specs.List.{flat_map, slice_get}
use Rattle.std.proofs.lemmas.List.{append_assoc, at_drop_more}
use Rattle.std.proofs.lemmas.Option.{slice_get_within, get_or_from_slice_get}
use Rattle.snd_meta.specs.Broadcast.{Broadcast}
use Rattle.snd_meta.specs.declared.bext.BextKey.TheVariants.{Description, Originator, OrigRef, OrigDate, OrigTime, TimeRef, CodingHist}
use Rattle.snd_lines.specs.Lines.{line, shown, bext_word, bext_lines}

seven : (t a b c d e f g t1 t2 t3 t4 t5 t6 t7 : List ℕ) → t1 ≡ t ++ a → t2 ≡ t1 ++ b → t3 ≡ t2 ++ c → t4 ≡ t3 ++ d → t5 ≡ t4 ++ e → t6 ≡ t5 ++ f → t7 ≡ t6 ++ g
    → t7 ≡ t ++ (a ++ b ++ c ++ d ++ e ++ f ++ g)
seven t a b c d e f g t1 t2 t3 t4 t5 t6 t7 h1 h2 h3 h4 h5 h6 h7 = rw (h7, h6, h5, h4, h3, h2, h1) (simp append_assoc)

-- the seven lines of a broadcast extension
pub seven_lines : (b : Broadcast) (word : List ℕ) (time : ℕ) (t t1 t2 t3 t4 t5 t6 t7 : List ℕ) → word ≡ bext_word TimeRef → time ≡ b.time_reference
    → t1 ≡ t ++ line (bext_word Description) (shown b.description) → t2 ≡ t1 ++ line (bext_word Originator) (shown b.originator)
    → t3 ≡ t2 ++ line (bext_word OrigRef) (shown b.reference) → t4 ≡ t3 ++ line (bext_word OrigDate) (shown b.date)
    → t5 ≡ t4 ++ line (bext_word OrigTime) (shown b.time) → t6 ≡ t5 ++ line word (decimal time) → t7 ≡ t6 ++ line (bext_word CodingHist) (shown b.history)
    → t7 ≡ t ++ bext_lines b
seven_lines b word time t t1 t2 t3 t4 t5 t6 t7 w n h1 h2 h3 h4 h5 h6 h7 =
    let sixth : t6 ≡ t5 ++ line (bext_word TimeRef) (decimal b.time_reference) = h6 ∙ ap (λ x. t5 ++ line x (decimal time)) w ∙ ap (λ x. t5 ++ line (bext_word TimeRef) (decimal x)) n in
    seven t _ _ _ _ _ _ _ t1 t2 t3 t4 t5 t6 t7 h1 h2 h3 h4 h5 sixth h7

-- one element more, by its place
pub one_more : {X : Type 0} (f : X → List ℕ) (xs : List X) (i : ℕ) (x : X) (old new : List ℕ) → slice_get xs i ≡ Some x → new ≡ old ++ f x
    → new ++ flat_map f (drop (i + 1) xs) ≡ old ++ flat_map f (drop i xs)
one_more f xs i x old new there e =
    let within : i < length xs = slice_get_within xs i x there in
    ap (λ b. b ++ flat_map f (drop (i + 1) xs)) e ∙ append_assoc old (f x) (flat_map f (drop (i + 1) xs))
    ∙ ap (λ b. old ++ (b ++ flat_map f (drop (i + 1) xs))) (ap f (sym (get_or_from_slice_get xs i x x there)))
    ∙ ap (λ b. old ++ b) (sym (at_drop_more (flat_map f) xs i x within))
