use Rattle.std.proofs.Common.{rules, ℕ, ◌≡◌, ◌∙◌, ap, sym, subst, ◌<◌, ◌≤ℤ◌, negsuc, ℤ, pos, ◌*ℤ◌, ◌^◌, get_or, length, set, to_z, of_z, w32}
use Rattle.std.proofs.lemmas.List.{get_or_default}
use Rattle.std.proofs.lemmas.List.Edits.{map_over_more}
use Rattle.snd_rack.proofs.Scaled.{still_old}
use Rattle.snd_pcm.specs.Width.{floor_div}
use Rattle.snd_rack.specs.Stage.{clamped}
use Rattle.snd_rack.proofs.samples.shift_short.Goals as goal

-- what becomes of a sample
abbrev scaled_by : ℕ → ℕ → ℤ → ℤ → ℤ → ℤ
scaled_by a b low high x = clamped low high (floor_div (x *ℤ pos a) b)

pub loop-x-preserved : goal.loop-x-preserved
loop-x-preserved c =
    let i = c.loop-x.x-index in
    let xs = c.loop-x.samples in
    let f : ℤ → ℤ = scaled_by c.args.a (2 ^ c.args.shift) (to_z w32 (of_z w32 c.args.low)) (to_z w32 (of_z w32 c.args.high)) in
    let x : ℤ = get_or xs i (pos 0) in
    let within : i < length xs = search rules in
    let old_within : i < length c.args.samples.now = search rules in
    let is : to_z w32 (of_z w32 x) ≡ x = search rules in
    let made : to_z w32 (of_z w32 c.shifted.result) ≡ c.shifted.result = search rules in
    let value : c.shifted.result ≡ f x = c.shifted.ensures ∙ ap f is in
    ap (set xs i) (made ∙ value) ∙ map_over_more f c.args.samples.now xs i x old_within c.loop-x.invariant (get_or_default xs i (pos 0) x within)

pub shifted-requires-clause-least : goal.shifted-requires-clause-least
shifted-requires-clause-least c =
    let i = c.loop-x.x-index in
    let xs = c.loop-x.samples in
    let f : ℤ → ℤ = scaled_by c.args.a (2 ^ c.args.shift) (to_z w32 (of_z w32 c.args.low)) (to_z w32 (of_z w32 c.args.high)) in
    let x : ℤ = get_or xs i (pos 0) in
    let old_within : i < length c.args.samples.now = search rules in
    let is : to_z w32 (of_z w32 x) ≡ x = search rules in
    let old : x ≡ get_or c.args.samples.now i (pos 0) = still_old f xs c.args.samples.now i (pos 0) old_within c.loop-x.invariant in
    let in_range = c.requires.in_range i (pos 0) old_within in
    subst (λ (z : ℤ). negsuc 32767 ≤ℤ z) (sym (is ∙ old)) in_range.0

pub shifted-requires-clause-most : goal.shifted-requires-clause-most
shifted-requires-clause-most c =
    let i = c.loop-x.x-index in
    let xs = c.loop-x.samples in
    let f : ℤ → ℤ = scaled_by c.args.a (2 ^ c.args.shift) (to_z w32 (of_z w32 c.args.low)) (to_z w32 (of_z w32 c.args.high)) in
    let x : ℤ = get_or xs i (pos 0) in
    let old_within : i < length c.args.samples.now = search rules in
    let is : to_z w32 (of_z w32 x) ≡ x = search rules in
    let old : x ≡ get_or c.args.samples.now i (pos 0) = still_old f xs c.args.samples.now i (pos 0) old_within c.loop-x.invariant in
    let in_range = c.requires.in_range i (pos 0) old_within in
    subst (λ (z : ℤ). z ≤ℤ pos 32767) (sym (is ∙ old)) in_range.1
