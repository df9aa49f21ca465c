use Rattle.std.proofs.Common.{rules, ℕ, ◌≡◌, ◌∙◌, ap, ◌<◌, ℤ, pos, ◌*ℤ◌, get_or, length, set, to_z, of_z, w32}
use Rattle.std.proofs.lemmas.List.{get_or_default}
use Rattle.std.proofs.lemmas.List.Edits.{map_over_more}
use Rattle.snd_pcm.specs.Width.{floor_div}
use Rattle.snd_rack.proofs.samples.rise.Goals as goal

-- what becomes of a sample
abbrev risen_by : ℕ → ℕ → ℤ → ℤ
risen_by i n x = floor_div (x *ℤ pos i) n

pub loop-x-preserved : goal.loop-x-preserved
loop-x-preserved c =
    let i = c.loop-x.x-index in
    let xs = c.loop-x.samples in
    let f : ℤ → ℤ = risen_by c.args.i c.args.count in
    let x : ℤ = get_or xs i (pos 0) in
    let within : i < length xs = search rules in
    let old_within : i < length c.args.samples.now = search rules in
    let is : to_z w32 (of_z w32 x) ≡ x = search rules in
    let made : to_z w32 (of_z w32 c.risen.result) ≡ c.risen.result = search rules in
    let value : c.risen.result ≡ f x = c.risen.ensures ∙ ap f is in
    ap (set xs i) (made ∙ value) ∙ map_over_more f c.args.samples.now xs i x old_within c.loop-x.invariant (get_or_default xs i (pos 0) x within)
