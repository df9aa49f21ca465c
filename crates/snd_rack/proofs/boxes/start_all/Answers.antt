use Rattle.std.proofs.Common.{◌≡◌, ◌∙◌, ap, rules, slice_get, Some, sym, to_z, of_z, w32, arith}
use Rattle.std.proofs.lemmas.List.{length-set}
use Rattle.snd_rack.specs.Held.{started}
use Rattle.snd_rack.specs.Setting.{stated}
use Rattle.snd_rack.proofs.Each.{is_old, rest_more}
use Rattle.snd_rack.proofs.Placed.{kind_here, start_on}
use Rattle.snd_rack.proofs.boxes.start_all.Goals as goal

pub start-requires-clause-kind : goal.start-requires-clause-kind
start-requires-clause-kind g c =
    let inv = c.loop-at.invariant in
    let x = c.index-stages-at.result in
    let there : slice_get c.args.spec.now c.loop-at.at ≡ Some (stated c.in-Some.setting) = search rules in
    let here = is_old c.loop-at.stages c.args.stages.now c.loop-at.at x x (omega arith) inv.same_length c.index-stages-at.is inv.rest in
    sym (kind_here (λ b. ((goal.Stage-dyn g (b.vtable, b.value)).stage b.value).kind) c.args.stages.now c.args.spec.now c.loop-at.at x (stated c.in-Some.setting) c.requires (omega (arith, inv.same_length)) here there)
    ∙ ap (λ b. ((goal.Stage-dyn g (b.vtable, b.value)).stage b.value).kind) c.index-stages-at.is

pub loop-at-preserved : goal.loop-at-preserved
loop-at-preserved g c =
    let inv = c.loop-at.invariant in
    let x = c.index-stages-at.result in
    let y = c.start.new.each in
    let there : slice_get c.args.spec.now c.loop-at.at ≡ Some (stated c.in-Some.setting) = search rules in
    let here = is_old c.loop-at.stages c.args.stages.now c.loop-at.at x y (omega arith) inv.same_length c.index-stages-at.is inv.rest in
    let kind = kind_here (λ b. ((goal.Stage-dyn g (b.vtable, b.value)).stage b.value).kind) c.args.stages.now c.args.spec.now c.loop-at.at x (stated c.in-Some.setting) c.requires (omega (arith, inv.same_length)) here there in
    let made = c.start.ensures ∙ ap (λ b. started (stated c.in-Some.setting) (to_z w32 (of_z w32 c.args.low)) (to_z w32 (of_z w32 c.args.high)) ((goal.Stage-dyn g (b.vtable, b.value)).stage b.value)) (sym c.index-stages-at.is) in
    record {
      so_far = start_on (λ b. (goal.Stage-dyn g (b.vtable, b.value)).stage b.value) _ _ c.args.spec.now c.loop-at.stages c.loop-at.at y ((goal.Stage-dyn g (x.vtable, x.value)).stage x.value) (stated c.in-Some.setting) (omega arith) inv.so_far there made kind;
      rest = rest_more c.loop-at.stages c.args.stages.now c.loop-at.at x y (omega arith) inv.same_length c.index-stages-at.is inv.rest;
      same_length = length-set c.loop-at.stages c.loop-at.at y ∙ inv.same_length;
    }
