-- What the part of a format's body that is read tells.
use Rattle.std.proofs.Common.{◌≡◌, ℕ, ◌+◌, ◌<◌, ◌≤◌, List, ◌++◌, None, Ok, length, take, drop, get_or, min, ap, sym, ◌∙◌, arith}
use Rattle.std.proofs.lemmas.List.{get_or-take, get_or-drop, places, same_lists}
use Rattle.std.specs.Prelude.{Result}
use Rattle.snd_layout.proofs.Formats.{format_fits, front_format}
use Rattle.snd_layout.specs.Fit.{fit_refusal}
use Rattle.snd_layout.specs.Format.{format_of}
use Rattle.snd_layout.specs.Params.{Parameters}
use Rattle.snd_layout.specs.declared.kind.Kind.TheVariants.{Wave}
use Rattle.snd_layout.specs.declared.refusal.OpenRefusal.{OpenRefusal}

part_of : (count len n : ℕ) (d : List ℕ) → count ≡ min len n → take count d ≡ take n (take len d)
part_of count len n d is = same_lists _ _ (grind (arith, places)) (λ i e lt. grind (arith, places))

-- a part that fills the front of zeros tells the format
filled : (count len : ℕ) (x zeros d : List ℕ) → x ≡ take (length (take count zeros)) d → length x ≡ length (take count zeros) → count ≡ min len (length zeros) → take count (x ++ drop count zeros) ≡ take count d
filled count len x zeros d told long is =
    let room : length (take count zeros) ≡ count = grind (arith, places, is) in
    let size : length x ≡ count = long ∙ room in
    let front : take count (x ++ drop count zeros) ≡ x = same_lists _ _ (grind (arith, places, size)) (λ i e lt. grind (arith, places, size)) in
    front ∙ told ∙ ap (λ (n : ℕ). take n d) room

pub part_tells : (count len : ℕ) (x zeros d : List ℕ) → x ≡ take (length (take count zeros)) d → length x ≡ length (take count zeros) → count ≡ min len (length zeros) → 50 ≤ length zeros
    → format_of (take count (x ++ drop count zeros)) ≡ format_of (take len d)
part_tells count len x zeros d told long is enough =
    ap format_of (filled count len x zeros d told long is ∙ part_of count len (length zeros) d is) ∙ front_format (length zeros) (take len d) enough

-- the parameters of a part fit a WAVE file
pub part_fits : (count : ℕ) (x zeros : List ℕ) (p : Parameters) (r : Result Parameters OpenRefusal) → length x ≡ length (take count zeros) → r ≡ format_of (take count (x ++ drop count zeros)) → r ≡ Ok p
    → fit_refusal Wave p ≡ None
part_fits count x zeros p r long read is = format_fits (take count (x ++ drop count zeros)) p (sym read ∙ is)

-- what fills a slice is what stands there
pub filled_agrees : (n p : ℕ) (x b : List ℕ) → x ≡ take n (drop p b) → (i : ℕ) → i < n → get_or x i 0 ≡ get_or b (p + i) 0
filled_agrees n p x b told i lt = ap (λ (l : List ℕ). get_or l i 0) told ∙ get_or-take n (drop p b) i 0 lt ∙ get_or-drop p b i 0
