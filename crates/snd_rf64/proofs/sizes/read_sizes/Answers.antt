use Rattle.std.proofs.Common.{rules, ◌≡◌, ◌∙◌, length, sym, arith, Ok, Err}
use Rattle.snd_layout.proofs.Answered.{refusal_found}
use Rattle.snd_rf64.specs.Layout.{sizes_of}
use Rattle.snd_rf64.proofs.Layouts.{sizes_read}
use Rattle.snd_rf64.proofs.sizes.read_sizes.Goals as goal

pub returns-in_err-sizes_in-clause-told : goal.returns-in_err-sizes_in-clause-told
returns-in_err-sizes_in-clause-told g c =
    refusal_found g.D.Disk.state c.args.disk.now sizes_of c.in_err-sizes_in.field-0.0 c.from_residual-in_err-sizes_in.result (search rules) (λ b told.
    let size : c.args.size ≡ length b = c.requires ∙ g.met.D.Disk.size_told c.args.disk.now b told in
    let is : Err c.in_err-sizes_in.field-0.0 ≡ c.sizes_in.result = search rules in
    sizes_read c.args.size b _ (c.in_ok-fill.ensures.told b told) size (omega (arith, c.if-size.false)) ∙ sym (is ∙ c.sizes_in.ensures.value))

pub returns-clause-told : goal.returns-clause-told
returns-clause-told g c = λ b told.
    let size : c.args.size ≡ length b = c.requires ∙ g.met.D.Disk.size_told c.args.disk.now b told in
    let is : Ok c.in_ok-sizes_in.field-0 ≡ c.sizes_in.result = search rules in
    sizes_read c.args.size b _ (c.in_ok-fill.ensures.told b told) size (omega (arith, c.if-size.false)) ∙ sym (is ∙ c.sizes_in.ensures.value)
