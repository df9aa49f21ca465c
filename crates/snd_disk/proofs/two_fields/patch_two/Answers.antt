use Rattle.std.proofs.Common.{◌≡◌, ◌∙◌, sym, ap, arith, Some, option_map}
use Rattle.snd_disk.specs.Bytes.{over}
use Rattle.snd_disk.proofs.RunsOfCalls.{same_some}
use Rattle.snd_disk.proofs.TwoFields.{settled, first_put, second_put}
use Rattle.snd_disk.proofs.two_fields.patch_two.Goals as goal

pub returns-in_err-put_field-clause-any_moment : goal.returns-in_err-put_field-clause-any_moment
returns-in_err-put_field-clause-any_moment g c = λ b told apart.
    let len = g.met.D.Disk.size_told c.args.disk.now b told in
    let same : (g.D.Disk.state c.settle.new.disk).contents ≡ Some b = c.settle.ensures.same.contents ∙ told in
    let so_far = settled b c.args.first_at c.args.first.now c.args.second_at c.args.second.now (omega (arith, len, c.requires.first)) (omega (arith, len, c.requires.second)) apart
    g.D.Disk.state g.D.Disk.may_leave g.D.Disk.left_between c.args.disk.now c.settle.new.disk c.settle.ensures.run in
    first_put b c.args.first_at c.args.first.now c.args.second_at c.args.second.now (omega (arith, len, c.requires.first)) (omega (arith, len, c.requires.second)) apart
    g.D.Disk.state g.D.Disk.may_leave g.D.Disk.left_between c.args.disk.now c.settle.new.disk c.put_field.new.disk so_far
    (λ x left. same_some x b (sym (c.in_ok-settle.ensures.durable x left) ∙ same)) (c.put_field.ensures.run b same)

pub returns-clause-any_moment : goal.returns-clause-any_moment
returns-clause-any_moment g c = λ b told apart.
    let len = g.met.D.Disk.size_told c.args.disk.now b told in
    let same : (g.D.Disk.state c.settle.new.disk).contents ≡ Some b = c.settle.ensures.same.contents ∙ told in
    let then : (g.D.Disk.state c.put_field.new.disk).contents ≡ Some (over b c.args.first_at c.args.first.now) = c.in_ok-put_field.ensures.contents ∙ ap (option_map (λ l. over l c.args.first_at c.args.first.now)) same in
    let so_far = settled b c.args.first_at c.args.first.now c.args.second_at c.args.second.now (omega (arith, len, c.requires.first)) (omega (arith, len, c.requires.second)) apart
    g.D.Disk.state g.D.Disk.may_leave g.D.Disk.left_between c.args.disk.now c.settle.new.disk c.settle.ensures.run in
    let one_put = first_put b c.args.first_at c.args.first.now c.args.second_at c.args.second.now (omega (arith, len, c.requires.first)) (omega (arith, len, c.requires.second)) apart
    g.D.Disk.state g.D.Disk.may_leave g.D.Disk.left_between c.args.disk.now c.settle.new.disk c.put_field.new.disk so_far
    (λ x left. same_some x b (sym (c.in_ok-settle.ensures.durable x left) ∙ same)) (c.put_field.ensures.run b same) in
    second_put b c.args.first_at c.args.first.now c.args.second_at c.args.second.now (omega (arith, len, c.requires.first)) (omega (arith, len, c.requires.second)) apart
    g.D.Disk.state g.D.Disk.may_leave g.D.Disk.left_between c.args.disk.now c.put_field.new.disk c.put_field-2.new.disk one_put
    (λ x left. same_some x (over b c.args.first_at c.args.first.now) (sym (c.in_ok-put_field.ensures.durable x left) ∙ then)) (c.put_field-2.ensures.run (over b c.args.first_at c.args.first.now) then)
