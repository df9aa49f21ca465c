use Rattle.std.proofs.Common.{◌≡◌, ◌∙◌, ◌++◌, ◌<◌, ℤ, List, ap, length, refl, sym, subst, arith}
use Rattle.snd_rack.specs.Held.{Held, MayPass, next, passed}
use Rattle.snd_rack.proofs.Block.{frames_on, may_on, none_left, room_on, state_left, states_on}
use Rattle.snd_rack.proofs.stage.Stage.apply_all.Goals as goal

pub copy_samples-requires : goal.copy_samples-requires
copy_samples-requires g c =
    let steps = c.in-Some.ensures.steps in
    omega (arith, steps.1.1, c.loop-samples.invariant.size, c.requires.most)

pub apply-requires : goal.apply-requires
apply-requires g c =
    let h : Held = g.Self.Stage.stage c.loop-samples.self in
    let steps = c.in-Some.ensures.steps in
    let inv = c.loop-samples.invariant in
    let may = may_on h c.args.channels c.in-Some.samples.now _ _ (omega (arith, c.requires.some)) (steps.1.1 ∙ inv.size) steps.1.0 (next h) refl inv.may in
    subst (MayPass h) (sym c.copy_samples.ensures) may.0

pub add_samples-requires : goal.add_samples-requires
add_samples-requires g c =
    let h : Held = g.Self.Stage.stage c.loop-samples.self in
    let steps = c.in-Some.ensures.steps in
    let inv = c.loop-samples.invariant in
    let made : c.apply.new.frame.items ≡ passed h c.in-Some.samples.now = c.apply.ensures.frame ∙ ap (passed h) c.copy_samples.ensures in
    let room = room_on h c.args.channels c.in-Some.samples.now _ _ (omega (arith, c.requires.some)) (steps.1.1 ∙ inv.size) steps.1.0 c.loop-samples.spare.items c.apply.new.frame.items _ made inv.samples in
    omega (arith, room, c.requires.room, ap length c.as_slice-in-loop-samples.ensures.value)

pub loop-samples-preserved : goal.loop-samples-preserved
loop-samples-preserved g c =
    let h : Held = g.Self.Stage.stage c.loop-samples.self in
    let steps = c.in-Some.ensures.steps in
    let inv = c.loop-samples.invariant in
    let some : 0 < c.args.channels = omega (arith, c.requires.some) in
    let len = steps.1.1 ∙ inv.size in
    let f : List ℤ = c.in-Some.samples.now in
    let made : c.apply.new.frame.items ≡ passed h f = c.apply.ensures.frame ∙ ap (passed h) c.copy_samples.ensures in
    let state = c.apply.ensures.state in
    let into : c.add_samples.new.into.items ≡ c.loop-samples.spare.items ++ c.apply.new.frame.items =
    c.add_samples.ensures ∙ ap (λ (l : List ℤ). c.loop-samples.spare.items ++ l) c.as_slice-in-loop-samples.ensures.value in
    record {
      size = steps.0 ∙ inv.size;
      samples = frames_on h c.args.channels f _ _ some len steps.1.0 c.loop-samples.spare.items c.apply.new.frame.items c.add_samples.new.into.items _ into made state ∙ inv.samples;
      state = states_on h c.args.channels f _ _ some len steps.1.0 _ state ∙ inv.state;
      may = (may_on h c.args.channels f _ _ some len steps.1.0 _ state inv.may).1;
    }

pub returns-clause-block : goal.returns-clause-block
returns-clause-block g c =
    let h : Held = g.Self.Stage.stage c.loop-samples.self in
    let steps = c.in-None.ensures.steps in
    let inv = c.loop-samples.invariant in
    c.copy_block.ensures ∙ c.as_slice-2.ensures.value
    ∙ none_left h c.args.channels c.loop-samples.samples-iterator.rest.now c.loop-samples.spare.items (omega (arith, steps.1.0, inv.size)) ∙ inv.samples

pub returns-clause-state : goal.returns-clause-state
returns-clause-state g c =
    let steps = c.in-None.ensures.steps in
    let inv = c.loop-samples.invariant in
    state_left (g.Self.Stage.stage c.loop-samples.self) c.args.channels c.loop-samples.samples-iterator.rest.now (omega (arith, steps.1.0, inv.size)) ∙ inv.state
