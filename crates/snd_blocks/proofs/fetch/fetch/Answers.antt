use Rattle.std.proofs.Common.{rules, ◌≡◌, ◌∙◌, ap, ◌+◌, ◌-◌, ◌*◌, ◌++◌, ℕ, drop, length, take, arith}
use Rattle.std.proofs.lemmas.List.{length-take, length-take-le, take_at}
use Rattle.std.proofs.lemmas.Result.{on_ok_weaker}
use Rattle.snd_layout.specs.Blocks.{block_align, block_frames}
use Rattle.snd_blocks.proofs.Fetches.{they_hold, together}
use Rattle.snd_blocks.proofs.Places.{block_fits}
use Rattle.snd_blocks.proofs.fetch.fetch.Goals as goal

pub fill-requires : goal.fill-requires
fill-requires g c =
    let s = c.args.layout.now in
    let align = block_align s.params.channels s.params.codec in
    let count = c.args.next - c.args.number in
    let last = block_fits (c.args.next - 1) (block_frames s.params.codec) s.frames align c.keeps_blocks.ensures.some_frames c.requires.within in
    let width : c.from.result ≡ align = search rules in
    let size : count * c.from.result ≡ count * align = ap (λ (m : ℕ). count * m) width in
    let all = together align c.args.number c.args.next c.requires.some in
    let at : c.place_of-at.result ≡ s.start + c.args.number * align = c.place_of-at.ensures.place in
    omega (arith, last, size, all, at, length-take (count * c.from.result) c.args.bytes.now, c.requires.held)

pub returns-clause-told : goal.returns-clause-told
returns-clause-told g c =
    let s = c.args.layout.now in
    let align = block_align s.params.channels s.params.codec in
    let count = c.args.next - c.args.number in
    let width : c.from.result ≡ align = search rules in
    let size : count * c.from.result ≡ count * align = ap (λ (m : ℕ). count * m) width in
    let asked : length (take (count * c.from.result) c.args.bytes.now) ≡ count * align = length-take-le (count * c.from.result) c.args.bytes.now (omega (arith, size, c.requires.room)) ∙ size in
    let filled : length c.fill.new.into ≡ count * align = search rules in
    on_ok_weaker c.fill.result
    (λ told b tells. they_hold b (c.fill.new.into ++ _) s c.args.number c.args.next
    (take_at c.fill.new.into _ (count * align) filled ∙ told b tells ∙ ap (λ (m : ℕ). take m (drop c.place_of-at.result b)) asked ∙ ap (λ (m : ℕ). take (count * align) (drop m b)) c.place_of-at.ensures.place))
    c.fill.ensures.told
