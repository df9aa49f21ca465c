use Rattle.std.proofs.Common.{rules, ◌≡◌, ap, ◌*◌, ℕ, arith}
use Rattle.snd_layout.specs.Blocks.{block_align, block_frames}
use Rattle.snd_blocks.proofs.Places.{block_fits}
use Rattle.snd_blocks.proofs.block.place_of.Goals as goal

pub overflow_mul-result : goal.overflow_mul-result
overflow_mul-result c =
    let s = c.args.layout.now in
    let last = block_fits c.args.number (block_frames s.params.codec) s.frames (block_align s.params.channels s.params.codec) c.keeps_blocks.ensures.some_frames c.requires.within in
    let size : c.args.number * c.from-align.result ≡ c.args.number * block_align s.params.channels s.params.codec = ap (λ (m : ℕ). c.args.number * m) (search rules) in
    omega (arith, last, size, c.keeps_rules.ensures.rule.data_end)

pub overflow_add-result : goal.overflow_add-result
overflow_add-result c =
    let s = c.args.layout.now in
    let last = block_fits c.args.number (block_frames s.params.codec) s.frames (block_align s.params.channels s.params.codec) c.keeps_blocks.ensures.some_frames c.requires.within in
    let size : c.args.number * c.from-align.result ≡ c.args.number * block_align s.params.channels s.params.codec = ap (λ (m : ℕ). c.args.number * m) (search rules) in
    let begins : c.layout.inside.start ≡ s.start = search rules in
    omega (arith, last, size, begins, c.keeps_rules.ensures.rule.data_end)

pub returns-clause-end : goal.returns-clause-end
returns-clause-end c =
    let s = c.args.layout.now in
    let last = block_fits c.args.number (block_frames s.params.codec) s.frames (block_align s.params.channels s.params.codec) c.keeps_blocks.ensures.some_frames c.requires.within in
    let size : c.args.number * c.from-align.result ≡ c.args.number * block_align s.params.channels s.params.codec = ap (λ (m : ℕ). c.args.number * m) (search rules) in
    let begins : c.layout.inside.start ≡ s.start = search rules in
    omega (arith, last, size, begins)
