use Rattle.std.proofs.Common.{◌≡◌, ◌∙◌, ◌≤◌, ap, arith, length, option_map, Some, sym}
use Rattle.snd_disk.proofs.Public.{same_some}
use Rattle.snd_patch.proofs.Phases.{raise_inner, raise_others, raise_settled}
use Rattle.snd_patch.specs.Sealed.{with_inner}
use Rattle.snd_patch.proofs.Updating.{settled, updates_more, updates_then}
use Rattle.snd_patch.proofs.fields.raise.Goals as goal

pub returns-in_err-settle-clause-updates : goal.returns-in_err-settle-clause-updates
returns-in_err-settle-clause-updates g c =
    updates_more g.D.Disk.state g.D.Disk.left_between c.args.layout.now c.args.to c.args.disk.now c.settle.new.disk 0 48 (omega arith) (settled g.D.Disk.state g.D.Disk.left_between c.args.layout.now c.args.to c.args.disk.now c.settle.new.disk c.settle.ensures.same c.settle.ensures.time c.settle.ensures.written c.settle.ensures.asked)

pub returns-in_err-put_inner-clause-updates : goal.returns-in_err-put_inner-clause-updates
returns-in_err-put_inner-clause-updates g c =
    updates_then g.D.Disk.state g.D.Disk.left_between c.args.layout.now c.args.to c.args.disk.now c.settle.new.disk c.put_inner.new.disk 0 32 48 (omega arith)
    (settled g.D.Disk.state g.D.Disk.left_between c.args.layout.now c.args.to c.args.disk.now c.settle.new.disk c.settle.ensures.same c.settle.ensures.time c.settle.ensures.written c.settle.ensures.asked) c.put_inner.ensures.updates

pub returns-clause-updates : goal.returns-clause-updates
returns-clause-updates g c =
    updates_then g.D.Disk.state g.D.Disk.left_between c.args.layout.now c.args.to c.args.disk.now c.put_inner.new.disk c.put_others.new.disk 32 16 48 (omega arith)
    (updates_then g.D.Disk.state g.D.Disk.left_between c.args.layout.now c.args.to c.args.disk.now c.settle.new.disk c.put_inner.new.disk 0 32 32 (omega arith)
    (settled g.D.Disk.state g.D.Disk.left_between c.args.layout.now c.args.to c.args.disk.now c.settle.new.disk c.settle.ensures.same c.settle.ensures.time c.settle.ensures.written c.settle.ensures.asked) c.put_inner.ensures.updates) c.put_others.ensures.updates

pub returns-in_err-settle-clause-leaves : goal.returns-in_err-settle-clause-leaves
returns-in_err-settle-clause-leaves g c = λ apart b told.
    let len = g.met.D.Disk.size_told c.args.disk.now b told in
    let there : c.args.layout.now.start ≤ length b = omega (arith, len, c.requires.there) in
    raise_settled g.D.Disk c.args.disk.now b c.args.layout.now c.args.to c.keeps_rule.ensures apart there c.settle.new.disk c.settle.ensures.run

pub returns-in_err-put_inner-clause-leaves : goal.returns-in_err-put_inner-clause-leaves
returns-in_err-put_inner-clause-leaves g c = λ apart b told.
    let len = g.met.D.Disk.size_told c.args.disk.now b told in
    let there : c.args.layout.now.start ≤ length b = omega (arith, len, c.requires.there) in
    let same : (g.D.Disk.state c.settle.new.disk).contents ≡ Some b = c.settle.ensures.same.contents ∙ told in
    raise_inner g.D.Disk c.args.disk.now b c.args.layout.now c.args.to c.keeps_rule.ensures apart there c.settle.new.disk c.put_inner.new.disk
    (raise_settled g.D.Disk c.args.disk.now b c.args.layout.now c.args.to c.keeps_rule.ensures apart there c.settle.new.disk c.settle.ensures.run)
    (λ y left. same_some y b (sym (c.in_ok-settle.ensures.stable y left) ∙ same)) (c.put_inner.ensures.run b same)

pub returns-clause-leaves : goal.returns-clause-leaves
returns-clause-leaves g c = λ apart b told.
    let len = g.met.D.Disk.size_told c.args.disk.now b told in
    let there : c.args.layout.now.start ≤ length b = omega (arith, len, c.requires.there) in
    let same : (g.D.Disk.state c.settle.new.disk).contents ≡ Some b = c.settle.ensures.same.contents ∙ told in
    let then : (g.D.Disk.state c.put_inner.new.disk).contents ≡ Some (with_inner b c.args.layout.now c.args.to) = c.in_ok-put_inner.ensures.contents ∙ ap (option_map (λ l. with_inner l c.args.layout.now c.args.to)) same in
    let so_far = raise_inner g.D.Disk c.args.disk.now b c.args.layout.now c.args.to c.keeps_rule.ensures apart there c.settle.new.disk c.put_inner.new.disk
    (raise_settled g.D.Disk c.args.disk.now b c.args.layout.now c.args.to c.keeps_rule.ensures apart there c.settle.new.disk c.settle.ensures.run)
    (λ y left. same_some y b (sym (c.in_ok-settle.ensures.stable y left) ∙ same)) (c.put_inner.ensures.run b same) in
    raise_others g.D.Disk c.args.disk.now b c.args.layout.now c.args.to c.keeps_rule.ensures apart there c.put_inner.new.disk c.put_others.new.disk so_far
    (λ y left. same_some y (with_inner b c.args.layout.now c.args.to) (sym (c.in_ok-put_inner.ensures.stable y left) ∙ then)) (c.put_others.ensures.run (with_inner b c.args.layout.now c.args.to) then)
