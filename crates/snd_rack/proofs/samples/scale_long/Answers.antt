use Rattle.std.proofs.Common.{rules, ℕ, ◌≡◌, ◌∙◌, ap, ◌<◌, ℤ, pos, ◌*ℤ◌, get_or, length, set, to_z, of_z, w32}
use Rattle.std.proofs.lemmas.List.{get_or_default}
use Rattle.std.proofs.lemmas.List.Edits.{map_over_more}
use Rattle.snd_pcm.specs.Width.{floor_div}
use Rattle.snd_rack.specs.Stage.{clamped}
use Rattle.snd_rack.proofs.samples.scale_long.Goals as goal

-- what becomes of a sample
abbrev scaled_by : ℕ → ℕ → ℤ → ℤ → ℤ → ℤ
scaled_by a b low high x = clamped low high (floor_div (x *ℤ pos a) b)

pub loop-x-preserved : goal.loop-x-preserved
loop-x-preserved c =
    let i = c.loop-x.x-index in
    let xs = c.loop-x.samples in
    let f : ℤ → ℤ = scaled_by c.args.a c.args.b (to_z w32 (of_z w32 c.args.low)) (to_z w32 (of_z w32 c.args.high)) in
    let x : ℤ = get_or xs i (pos 0) in
    let within : i < length xs = search rules in
    let old_within : i < length c.args.samples.now = search rules in
    let is : to_z w32 (of_z w32 x) ≡ x = search rules in
    let made : to_z w32 (of_z w32 c.scaled.result) ≡ c.scaled.result = search rules in
    let value : c.scaled.result ≡ f x = c.scaled.ensures ∙ ap f is in
    ap (set xs i) (made ∙ value) ∙ map_over_more f c.args.samples.now xs i x old_within c.loop-x.invariant (get_or_default xs i (pos 0) x within)
