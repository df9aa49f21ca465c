use Rattle.std.proofs.Common.{rules, ◌≡◌, ◌∙◌, ap, ℕ, ◌+◌, ◌*◌, arith}
use Rattle.snd_layout.specs.Blocks.{block_align}
use Rattle.snd_container.specs.Fixed.{byte_count}
use Rattle.snd_edits.proofs.Public.{linear_align}
use Rattle.snd_frames.proofs.frames.place_of.Goals as goal

pub returns : goal.returns
returns c =
    let w = byte_count c.args.form in
    let channels = c.args.layout.now.params.channels in
    let align = linear_align c.args.layout.now.params.codec c.args.form channels c.requires.linear in
    let size : c.from.result ≡ block_align channels c.args.layout.now.params.codec = search rules in
    let begins : c.layout.inside.start ≡ c.args.layout.now.start = search rules in
    ap (λ (m : ℕ). m + c.args.frame * c.from.result) begins
    ∙ ap (λ (m : ℕ). c.args.layout.now.start + c.args.frame * m) (size ∙ align)
    ∙ (let e : c.args.layout.now.start + c.args.frame * (w * channels) ≡ c.args.layout.now.start + w * (channels * c.args.frame) = omega arith in e)
