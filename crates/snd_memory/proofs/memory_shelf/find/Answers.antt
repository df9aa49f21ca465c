use Rattle.std.proofs.Common.{◌≡◌, ◌+◌, ◌∷◌, ℕ, List, suc, drop, Option, Some, None, option_map, Bool, true, false, cond, refl, sym, ap, ◌∙◌, rules, arith, add-zero}
use Rattle.std.proofs.lemmas.List.{drop_more}
use Rattle.std.specs.String.{string_bytes}
use Rattle.std.specs.Str.{bytes_eq}
use Rattle.snd_memory.specs.MemoryShelf.{place_of}
use Rattle.snd_memory.specs.declared.memory_shelf.Entry.{Entry}
use Rattle.snd_memory.proofs.memory_shelf.find.Goals as goal

here : (es : List Entry) (n : List ℕ) (i : ℕ) (e : Entry) (b : Bool) → drop i es ≡ e ∷ drop (i + 1) es → bytes_eq n (string_bytes e.name) ≡ b → place_of (drop i es) n ≡ cond b (Some 0) (option_map (λ k. suc k) (place_of (drop (i + 1) es) n))
here es n i e b front test = ap (λ (l : List Entry). place_of l n) front ∙ ap (λ c. cond c (Some 0) (option_map (λ k. suc k) (place_of (drop (i + 1) es) n))) test

further : (i : ℕ) (p : Option ℕ) → option_map (λ k. i + 1 + k) p ≡ option_map (λ k. i + k) (option_map (λ k. suc k) p)
further i None = refl
further i (Some k) = let same : i + 1 + k ≡ i + suc k = omega arith in ap (λ (m : ℕ). Some m) same

pub loop-i-preserved : goal.loop-i-preserved
loop-i-preserved c =
    let front : drop c.loop-i.i c.args.entries.now ≡ c.index-entries-i.result ∷ drop (c.loop-i.i + 1) c.args.entries.now =
    drop_more c.args.entries.now c.loop-i.i c.index-entries-i.result (omega arith) ∙ ap (λ e. e ∷ drop (c.loop-i.i + 1) c.args.entries.now) (sym c.index-entries-i.is) in
    let test : bytes_eq c.args.name.now (string_bytes c.index-entries-i.result.name) ≡ false = search rules in
    further c.loop-i.i (place_of (drop (c.loop-i.i + 1) c.args.entries.now) c.args.name.now)
    ∙ ap (option_map (λ k. c.loop-i.i + k)) (sym (here c.args.entries.now c.args.name.now c.loop-i.i c.index-entries-i.result false front test)) ∙ c.loop-i.invariant

pub returns-then-eq-clause-place : goal.returns-then-eq-clause-place
returns-then-eq-clause-place c =
    let front : drop c.loop-i.i c.args.entries.now ≡ c.index-entries-i.result ∷ drop (c.loop-i.i + 1) c.args.entries.now =
    drop_more c.args.entries.now c.loop-i.i c.index-entries-i.result (omega arith) ∙ ap (λ e. e ∷ drop (c.loop-i.i + 1) c.args.entries.now) (sym c.index-entries-i.is) in
    let test : bytes_eq c.args.name.now (string_bytes c.index-entries-i.result.name) ≡ true = search rules in
    ap (λ (m : ℕ). Some m) (sym (add-zero c.loop-i.i)) ∙ ap (option_map (λ k. c.loop-i.i + k)) (sym (here c.args.entries.now c.args.name.now c.loop-i.i c.index-entries-i.result true front test)) ∙ c.loop-i.invariant
