use Rattle.std.proofs.Common.{rules, ◌≡◌, ◌∙◌, ap, ◌-◌, ◌*◌, ℕ, ℤ, List, length, arith}
use Rattle.snd_layout.specs.Blocks.{block_frames}
use Rattle.snd_blocks.specs.Cache.{block_numbers}
use Rattle.snd_blocks.proofs.Kept.{part_fits}
use Rattle.snd_blocks.proofs.buffer.BlockCache.block.Goals as goal

pub overflow_mul-at : goal.overflow_mul-at
overflow_mul-at c =
    let s = c.args.layout.now in
    let cache = c.args.self.now in
    let at = c.args.number - cache.first in
    let frames : c.from.result ≡ block_frames s.params.codec = search rules in
    let size : c.channels_of.result * c.from.result ≡ block_numbers s =
    ap (λ (m : ℕ). m * c.from.result) c.channels_of.ensures.value ∙ ap (λ (m : ℕ). s.params.channels * m) frames in
    let same : at * (c.channels_of.result * c.from.result) ≡ at * block_numbers s = ap (λ (m : ℕ). at * m) size in
    let all : length c.as_slice-samples.result.now ≡ length cache.samples.items = ap (λ (l : List ℤ). length l) c.as_slice-samples.ensures.value in
    omega (arith, same, part_fits cache.count c.args.number cache.first (block_numbers s) c.requires.kept.0 c.requires.kept.1, c.requires.whole, all, c.as_slice-samples.ensures.fits)
