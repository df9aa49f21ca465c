use Rattle.std.proofs.Common.{rules, ◌≡◌, ◌∙◌, ap, Err, length}
use Rattle.snd_layout.proofs.Answered.{refusal_found}
use Rattle.snd_au.proofs.Opens.{read_layout, too_short}
use Rattle.snd_au.specs.Layout.{au_layout}
use Rattle.snd_layout.specs.declared.refusal.OpenRefusal.{OpenRefusal}
use Rattle.snd_layout.specs.declared.refusal.OpenRefusal.TheVariants.{ShortHeader}
use Rattle.snd_au.proofs.layout.find_layout.Goals as goal

pub returns-then-size-lt-HEAD_SIZE-clause-opened : goal.returns-then-size-lt-HEAD_SIZE-clause-opened
returns-then-size-lt-HEAD_SIZE-clause-opened g c = λ refusal b by told.
    let size : c.args.size ≡ length b = c.requires ∙ g.met.D.Disk.size_told c.args.disk.now b told in
    let same : ShortHeader ≡ refusal = cc in
    too_short c.args.order c.args.size b size c.if-size-lt-HEAD_SIZE.true ∙ ap (λ (r : OpenRefusal). Err r) same

pub returns-in_err-layout_of-clause-opened : goal.returns-in_err-layout_of-clause-opened
returns-in_err-layout_of-clause-opened g c =
    refusal_found g.D.Disk.state c.args.disk.now (au_layout c.args.order) c.in_err-layout_of.field-0.0 c.from_residual-in_err-layout_of.result (search rules) (λ b told.
    let size : c.args.size ≡ length b = c.requires ∙ g.met.D.Disk.size_told c.args.disk.now b told in
    read_layout c.args.order c.args.size c.in_ok-numbers.numbers b c.if-size-lt-HEAD_SIZE.false size (c.in_ok-numbers.ensures.told b told) ∙ c.in_err-layout_of.ensures.refused)

pub returns-clause-opened : goal.returns-clause-opened
returns-clause-opened g c = λ b told.
    let size : c.args.size ≡ length b = c.requires ∙ g.met.D.Disk.size_told c.args.disk.now b told in
    read_layout c.args.order c.args.size c.in_ok-numbers.numbers b c.if-size-lt-HEAD_SIZE.false size (c.in_ok-numbers.ensures.told b told) ∙ c.in_ok-layout_of.ensures.value
