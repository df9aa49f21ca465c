-- Bytes at their places, as slices.
use Rattle.std.proofs.Common.{◌≡◌, ℕ, ◌+◌, ◌<◌, List, length, get_or, take, drop, sym, ◌∙◌, arith}
use Rattle.std.proofs.lemmas.List.{get_or-drop, get_or-take, get_or_default, length-drop, length-take, same_lists}
use Rattle.snd_patch.specs.Laws.{FrontReads, NewFieldReads, OldFieldReads}

slice_at : (x : List ℕ) (at n k d : ℕ) → k < n → get_or (take n (drop at x)) k d ≡ get_or x (at + k) d
slice_at x at n k d lt = get_or-take n (drop at x) k d lt ∙ get_or-drop at x k d

pub new_field_reads : NewFieldReads
new_field_reads x v at has within = same_lists (take (length v) (drop at x)) v
    (omega (arith, within, length-take (length v) (drop at x), length-drop at x))
    (λ k d lt. let few : k < length v = omega (arith, lt, length-take (length v) (drop at x)) in
    slice_at x at (length v) k d few ∙ get_or_default x (at + k) d 0 (omega (arith, within, few)) ∙ has k few ∙ get_or_default v k 0 d few)

pub old_field_reads : OldFieldReads
old_field_reads x b at n size has = same_lists (take n (drop at x)) (take n (drop at b))
    (omega (arith, size, length-take n (drop at x), length-drop at x, length-take n (drop at b), length-drop at b))
    (λ k d lt. let few : k < n = omega (arith, lt, length-take n (drop at x)) in
    let within : at + k < length x = omega (arith, lt, length-take n (drop at x), length-drop at x) in
    slice_at x at n k d few ∙ get_or_default x (at + k) d 0 within ∙ has k few ∙ get_or_default b (at + k) 0 d (omega (arith, within, size)) ∙ sym (slice_at b at n k d few))

pub front_reads : FrontReads
front_reads x b n one two same = same_lists (take n x) (take n b) (omega (arith, one, two, length-take n x, length-take n b))
    (λ k d lt. let few : k < n = omega (arith, lt, length-take n x) in
    get_or-take n x k d few ∙ get_or_default x k d 0 (omega (arith, few, one)) ∙ same k few ∙ get_or_default b k 0 d (omega (arith, few, two)) ∙ sym (get_or-take n b k d few))
