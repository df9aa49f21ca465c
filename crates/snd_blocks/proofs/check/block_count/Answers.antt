use Rattle.std.proofs.Common.{rules, ◌≡◌, ◌∙◌, ap, ℕ}
use Rattle.std.specs.Int.{div_ceil}
use Rattle.snd_layout.specs.Blocks.{block_frames}
use Rattle.snd_blocks.proofs.Places.{rounded_up}
use Rattle.snd_blocks.proofs.check.block_count.Goals as goal

pub returns : goal.returns
returns c =
    let s = c.args.layout.now in
    let per = block_frames s.params.codec in
    let size : c.from.result ≡ per = search rules in
    let frames : c.layout.inside.frames ≡ s.frames = search rules in
    c.div_ceil.ensures
    ∙ ap (λ (m : ℕ). div_ceil m c.from.result) frames
    ∙ ap (λ (m : ℕ). div_ceil s.frames m) size
    ∙ rounded_up s.frames per c.keeps_blocks.ensures.some_frames
