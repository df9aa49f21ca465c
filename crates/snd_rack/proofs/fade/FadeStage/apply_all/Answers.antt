use Rattle.std.proofs.Common.{◌≡◌, ◌∙◌, ◌+◌, ◌-◌, ◌/◌, ◌≤◌, ◌^◌, min, ℕ, ap, length, arith}
use Rattle.snd_rack.specs.Stages.{fade_held}
use Rattle.snd_rack.proofs.Block.{counted_as, risen_as}
use Rattle.snd_rack.proofs.fade.FadeStage.apply_all.Goals as goal

pub rise_block-requires-clause-room : goal.rise_block-requires-clause-room
rise_block-requires-clause-room c =
    let s = c.args.self.now in
    omega (arith, c.requires.room, ap length (risen_as s.low s.high s.count s.seen c.args.channels c.args.block.now.items))

pub returns-clause-block : goal.returns-clause-block
returns-clause-block c =
    let s = c.args.self.now in
    c.rise_block.ensures ∙ risen_as s.low s.high s.count s.seen c.args.channels c.args.block.now.items

pub returns-clause-state : goal.returns-clause-state
returns-clause-state c =
    let n_is : c.len.result / c.args.channels ≡ length c.args.block.now.items / c.args.channels = ap (λ (m : ℕ). m / c.args.channels) c.len.ensures.value in
    let few : c.args.self.now.seen ≤ 2 ^ 64 - 1 = omega arith in
    let is : c.saturating_add-self.result ≡ min (c.args.self.now.seen + length c.args.block.now.items / c.args.channels) (2 ^ 64 - 1) = omega (arith, n_is) in
    counted_as (fade_held c.args.self.now) (length c.args.block.now.items / c.args.channels) c.saturating_add-self.result few is
