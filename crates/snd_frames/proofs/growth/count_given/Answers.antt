use Rattle.std.proofs.Common.{◌≡◌, ◌∙◌, ap, sym, ℕ, ◌/◌, length}
use Rattle.snd_edits.specs.Bytes.{sources_in}
use Rattle.snd_frames.specs.Given.{given}
use Rattle.snd_edits.proofs.Public.{count_of_given}
use Rattle.snd_frames.proofs.growth.count_given.Goals as goal

pub returns-in-Bytes-clause-value : goal.returns-in-Bytes-clause-value
returns-in-Bytes-clause-value c =
    let h = c.args.layout.now in
    let p = h.params in
    let bytes = c.in-Bytes.bytes.now in
    let is : given h c.args.from ≡ sources_in p.codec bytes = ap (given h) c.in-Bytes.is in
    ap (λ (w : ℕ). length bytes / w) c.bytes.ensures ∙ sym (count_of_given p.codec bytes c.in-Some.form (sym c.in-Some.ensures.form)) ∙ ap length (sym is)

pub returns-in-Numbers-clause-value : goal.returns-in-Numbers-clause-value
returns-in-Numbers-clause-value c =
    let is : given c.args.layout.now c.args.from ≡ c.in-Numbers.numbers.now = ap (given c.args.layout.now) c.in-Numbers.is in
    ap length (sym is)
