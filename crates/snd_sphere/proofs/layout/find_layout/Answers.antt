use Rattle.std.proofs.Common.{rules, arith, refl, sym, ◌∙◌}
use Rattle.snd_sphere.specs.Layout.{sphere_layout}
use Rattle.snd_layout.proofs.Answered.{refusal_found}
use Rattle.snd_sphere.proofs.Openings.{short, with_header}
use Rattle.snd_layout.specs.declared.refusal.OpenRefusal.TheVariants.{ShortHeader}
use Rattle.snd_sphere.proofs.layout.find_layout.Goals as goal

pub returns-then-size-lt-HEADER-clause-told : goal.returns-then-size-lt-HEADER-clause-told
returns-then-size-lt-HEADER-clause-told g c =
    refusal_found g.D.Disk.state c.args.disk.now sphere_layout ShortHeader _ refl (λ b told. short b (omega (arith, c.if-size-lt-HEADER.true, c.requires, g.met.D.Disk.size_told c.args.disk.now b told)))

pub returns-in_err-layout_in-clause-told : goal.returns-in_err-layout_in-clause-told
returns-in_err-layout_in-clause-told g c =
    refusal_found g.D.Disk.state c.args.disk.now sphere_layout c.in_err-layout_in.field-0.0 c.from_residual-in_err-layout_in.result (search rules) (λ b told.
    with_header b c.fill.new.into c.args.size (c.requires ∙ g.met.D.Disk.size_told c.args.disk.now b told) (omega (arith, c.if-size-lt-HEADER.false)) (c.in_ok-fill.ensures.told b told)
    ∙ sym c.layout_in.ensures.value ∙ c.in_err-layout_in.was)

pub returns-clause-told : goal.returns-clause-told
returns-clause-told g c = λ b told.
    with_header b c.fill.new.into c.args.size (c.requires ∙ g.met.D.Disk.size_told c.args.disk.now b told) (omega (arith, c.if-size-lt-HEADER.false)) (c.in_ok-fill.ensures.told b told)
    ∙ sym c.layout_in.ensures.value ∙ c.in_ok-layout_in.was
