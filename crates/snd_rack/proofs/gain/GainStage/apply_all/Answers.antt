use Rattle.std.proofs.Common.{rules, ◌≡◌, ◌+◌, ◌-◌, ◌/◌, ◌≤◌, ◌^◌, min, ℕ, ap, length, refl, to_z, of_z, w32, arith}
use Rattle.snd_rack.specs.Stages.{gain_held}
use Rattle.snd_rack.proofs.Block.{counted_as, range_as, scaled_as}
use Rattle.snd_rack.proofs.gain.GainStage.apply_all.Goals as goal

pub scale-requires-clause-in_range : goal.scale-requires-clause-in_range
scale-requires-clause-in_range c =
    let low : to_z w32 (of_z w32 c.args.self.now.low) ≡ c.args.self.now.low = search rules in
    let high : to_z w32 (of_z w32 c.args.self.now.high) ≡ c.args.self.now.high = search rules in
    range_as (gain_held c.args.self.now) c.args.channels c.args.block.now.items c.as_mut_slice.result.now _ _ low high c.as_mut_slice.ensures.value c.requires

pub returns-clause-block : goal.returns-clause-block
returns-clause-block c =
    let low : to_z w32 (of_z w32 c.args.self.now.low) ≡ c.args.self.now.low = search rules in
    let high : to_z w32 (of_z w32 c.args.self.now.high) ≡ c.args.self.now.high = search rules in
    scaled_as (gain_held c.args.self.now) c.args.channels c.args.block.now.items c.as_mut_slice.result.now _ _ low high c.as_mut_slice.ensures.value c.requires c.args.self.now.a c.args.self.now.b c.scale.new.samples refl c.scale.ensures

pub returns-clause-state : goal.returns-clause-state
returns-clause-state c =
    let n_is : c.len.result / c.args.channels ≡ length c.args.block.now.items / c.args.channels = ap (λ (m : ℕ). m / c.args.channels) c.len.ensures.value in
    let few : c.args.self.now.seen ≤ 2 ^ 64 - 1 = omega arith in
    let is : c.saturating_add-self.result ≡ min (c.args.self.now.seen + length c.args.block.now.items / c.args.channels) (2 ^ 64 - 1) = omega (arith, n_is) in
    counted_as (gain_held c.args.self.now) (length c.args.block.now.items / c.args.channels) c.saturating_add-self.result few is
