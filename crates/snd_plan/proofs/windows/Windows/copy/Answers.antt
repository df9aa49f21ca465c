use Rattle.std.proofs.Common.{List, length, sym, subst, ◌∙◌, ap}
use Rattle.std.specs.List.{Contains, list_any}
use Rattle.snd_plan.specs.Windows.{holds}
use Rattle.snd_plan.specs.declared.windows.Window.{Window}
use Rattle.snd_plan.proofs.Read.{one_part, part_end, part_start, same_parts, whole_part}
use Rattle.snd_plan.proofs.windows.Windows.copy.Goals as goal

pub returns-clause-bytes : goal.returns-clause-bytes
returns-clause-bytes c = λ yes b has.
    let listed = subst (λ (l : List Window). Contains l c.in-Some.w) c.deref.ensures.value c.in-Some.ensures.listed in
    let one = one_part c.args.self.now.bytes.items b c.args.self.now.list.items c.in-Some.w has listed in
    let after = part_start c.args.at (length c.args.into.now) c.in-Some.w c.in-Some.ensures.within in
    let before = part_end c.args.at (length c.args.into.now) c.in-Some.w c.in-Some.ensures.within in
    whole_part b c.copy_whole.new.into c.deref-2.result.now c.args.self.now.bytes.items c.in-Some.w.at c.in-Some.w.from c.in-Some.w.len c.args.at (length c.args.into.now) one after before c.deref-2.ensures.value c.copy_whole.ensures

pub returns-clause-exact : goal.returns-clause-exact
returns-clause-exact c =
    let n = length c.args.into.now in
    sym c.in-Some.ensures.held ∙ ap (list_any (holds c.args.at n)) c.deref.ensures.value
    ∙ same_parts c.args.self.now.bytes.items c.args.at n c.args.self.now.list.items c.args.self.now.taped

pub returns-in_default-clause-exact : goal.returns-in_default-clause-exact
returns-in_default-clause-exact c =
    let n = length c.args.into.now in
    sym c.in_default.ensures.none ∙ ap (list_any (holds c.args.at n)) c.deref.ensures.value
    ∙ same_parts c.args.self.now.bytes.items c.args.at n c.args.self.now.list.items c.args.self.now.taped
