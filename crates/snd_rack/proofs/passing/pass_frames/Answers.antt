use Rattle.std.proofs.Common.{rules, ◌≡◌, ◌∙◌, ◌-◌, ◌*◌, ◌/◌, ◌%◌, ◌++◌, ◌<◌, ◌≤◌, min, ℕ, ℤ, List, ap, take, length, map, sym, subst, arith}
use Rattle.std.proofs.lemmas.List.{append-nil, length-append}
use Rattle.snd_pcm.specs.Groups.{groups}
use Rattle.snd_rack.specs.Held.{Held}
use Rattle.snd_rack.specs.Passing.{AllHaveRoom, EachMayPass, each_passed, joined, later}
use Rattle.snd_rack.proofs.Block.{block_on, block_room, block_states, both_may, few_fit, front_whole, piece_few, piece_is, piece_one, piece_whole, rest_whole, same_count, same_groups, states_left}
use Rattle.snd_rack.proofs.Cut.{length_groups, no_group}
use Rattle.snd_rack.proofs.passing.pass_frames.Goals as goal

pub loop-samples-init : goal.loop-samples-init
loop-samples-init g c =
    let hs : List Held = map (λ b. (goal.Stage-dyn g (b.vtable, b.value)).stage b.value) c.args.stages.now in
    let q = c.args.channels in
    let xs = c.args.numbers.now in
    let some : 0 < q = omega (arith, c.requires.some) in
    let same : c.into_iter-samples-iterator.result.rest.now ≡ take (length xs - length xs % q) xs = search rules in
    let size : c.into_iter-samples-iterator.result.size ≡ 64 * q = search rules in
    record {
      size = size;
      whole = ap (λ (l : List ℤ). length l % q) same ∙ front_whole q xs some;
      frames = ap (λ (l : List ℤ). l ++ joined (each_passed hs (groups q c.into_iter-samples-iterator.result.rest.now))) c.clear.ensures
          ∙ ap (λ (l : List ℤ). joined (each_passed hs (groups q l))) same ∙ ap (λ l. joined (each_passed hs l)) (same_groups q xs some);
      states = ap (λ (l : List ℤ). later (length l / q) hs) same ∙ ap (λ (n : ℕ). later n hs) (same_count q xs some);
      may = subst (λ (l : List ℤ). EachMayPass hs (groups q l)) (sym same) (subst (EachMayPass hs) (sym (same_groups q xs some)) c.requires.may);
    }

pub pass_block-requires-clause-one : goal.pass_block-requires-clause-one
pass_block-requires-clause-one g c =
    let steps = c.in-Some.ensures.steps in
    let inv = c.loop-samples.invariant in
    let rest = c.loop-samples.samples-iterator.rest.now in
    let size : length c.in-Some.samples.now ≡ min (64 * c.args.channels) (length rest) = omega (arith, steps.1.1, inv.size) in
    let one = piece_one c.args.channels (length rest) (length c.in-Some.samples.now) (length c.next.new.self.rest.now) c.requires.some inv.whole size steps.1.2 (ap length steps.1.0 ∙ length-append c.in-Some.samples.now c.next.new.self.rest.now) in
    subst (λ (l : List ℤ). 1 ≤ length l / c.args.channels) (sym c.copy_block.ensures) one

pub pass_block-requires-clause-room : goal.pass_block-requires-clause-room
pass_block-requires-clause-room g c =
    let hs : List Held = map (λ b. (goal.Stage-dyn g (b.vtable, b.value)).stage b.value) c.loop-samples.stages in
    let steps = c.in-Some.ensures.steps in
    let inv = c.loop-samples.invariant in
    let q = c.args.channels in
    let rest = c.loop-samples.samples-iterator.rest.now in
    let piece = c.in-Some.samples.now in
    let size : length piece ≡ min (64 * q) (length rest) = omega (arith, steps.1.1, inv.size) in
    let parts = ap length steps.1.0 ∙ length-append piece c.next.new.self.rest.now in
    let is = piece_is q (length rest) (length piece) (length c.next.new.self.rest.now) c.requires.some inv.whole size steps.1.2 parts in
    let few = piece_few q (length rest) (length piece) (length c.next.new.self.rest.now) c.requires.some inv.whole size steps.1.2 parts in
    let one = piece_one q (length rest) (length piece) (length c.next.new.self.rest.now) c.requires.some inv.whole size steps.1.2 parts in
    let may = both_may hs q (min 64 (length rest / q)) piece _ rest (omega (arith, c.requires.some)) is steps.1.0 inv.may in
    let fit = few_fit hs q (length piece / q) (groups q piece) c.requires.some c.requires.most few (omega (arith, length_groups q piece, one)) may.0 in
    subst (λ (l : List ℤ). AllHaveRoom hs q (length l / q)) (sym c.copy_block.ensures) fit

pub pass_block-requires-clause-whole : goal.pass_block-requires-clause-whole
pass_block-requires-clause-whole g c =
    let steps = c.in-Some.ensures.steps in
    let inv = c.loop-samples.invariant in
    let rest = c.loop-samples.samples-iterator.rest.now in
    let size : length c.in-Some.samples.now ≡ min (64 * c.args.channels) (length rest) = omega (arith, steps.1.1, inv.size) in
    let whole = piece_whole c.args.channels (length rest) (length c.in-Some.samples.now) (length c.next.new.self.rest.now) c.requires.some inv.whole size steps.1.2 (ap length steps.1.0 ∙ length-append c.in-Some.samples.now c.next.new.self.rest.now) in
    ap (λ (l : List ℤ). length l % c.args.channels) c.copy_block.ensures ∙ whole

pub pass_block-requires-clause-may : goal.pass_block-requires-clause-may
pass_block-requires-clause-may g c =
    let hs : List Held = map (λ b. (goal.Stage-dyn g (b.vtable, b.value)).stage b.value) c.loop-samples.stages in
    let steps = c.in-Some.ensures.steps in
    let inv = c.loop-samples.invariant in
    let rest = c.loop-samples.samples-iterator.rest.now in
    let piece = c.in-Some.samples.now in
    let size : length piece ≡ min (64 * c.args.channels) (length rest) = omega (arith, steps.1.1, inv.size) in
    let is = piece_is c.args.channels (length rest) (length piece) (length c.next.new.self.rest.now) c.requires.some inv.whole size steps.1.2 (ap length steps.1.0 ∙ length-append piece c.next.new.self.rest.now) in
    let may = both_may hs c.args.channels (min 64 (length rest / c.args.channels)) piece _ rest (omega (arith, c.requires.some)) is steps.1.0 inv.may in
    subst (λ (l : List ℤ). EachMayPass hs (groups c.args.channels l)) (sym c.copy_block.ensures) may.0

pub add_samples-requires : goal.add_samples-requires
add_samples-requires g c =
    let hs : List Held = map (λ b. (goal.Stage-dyn g (b.vtable, b.value)).stage b.value) c.loop-samples.stages in
    let steps = c.in-Some.ensures.steps in
    let inv = c.loop-samples.invariant in
    let rest = c.loop-samples.samples-iterator.rest.now in
    let piece = c.in-Some.samples.now in
    let size : length piece ≡ min (64 * c.args.channels) (length rest) = omega (arith, steps.1.1, inv.size) in
    let is = piece_is c.args.channels (length rest) (length piece) (length c.next.new.self.rest.now) c.requires.some inv.whole size steps.1.2 (ap length steps.1.0 ∙ length-append piece c.next.new.self.rest.now) in
    let made : c.pass_block.new.block.items ≡ joined (each_passed hs (groups c.args.channels piece)) =
    c.pass_block.ensures.block ∙ ap (λ (l : List ℤ). joined (each_passed hs (groups c.args.channels l))) c.copy_block.ensures in
    let room = block_room hs c.args.channels (min 64 (length rest / c.args.channels)) piece _ rest (omega (arith, c.requires.some)) is steps.1.0 c.loop-samples.into.items c.pass_block.new.block.items _ made inv.frames in
    omega (arith, room, c.requires.room, ap length c.as_slice.ensures.value)

pub loop-samples-preserved : goal.loop-samples-preserved
loop-samples-preserved g c =
    let hs : List Held = map (λ b. (goal.Stage-dyn g (b.vtable, b.value)).stage b.value) c.loop-samples.stages in
    let steps = c.in-Some.ensures.steps in
    let inv = c.loop-samples.invariant in
    let some : 0 < c.args.channels = omega (arith, c.requires.some) in
    let rest = c.loop-samples.samples-iterator.rest.now in
    let piece = c.in-Some.samples.now in
    let size : length piece ≡ min (64 * c.args.channels) (length rest) = omega (arith, steps.1.1, inv.size) in
    let parts = ap length steps.1.0 ∙ length-append piece c.next.new.self.rest.now in
    let is = piece_is c.args.channels (length rest) (length piece) (length c.next.new.self.rest.now) c.requires.some inv.whole size steps.1.2 parts in
    let n = min 64 (length rest / c.args.channels) in
    let made : c.pass_block.new.block.items ≡ joined (each_passed hs (groups c.args.channels piece)) =
    c.pass_block.ensures.block ∙ ap (λ (l : List ℤ). joined (each_passed hs (groups c.args.channels l))) c.copy_block.ensures in
    let states = c.pass_block.ensures.states ∙ ap (λ (l : List ℤ). later (length l / c.args.channels) hs) c.copy_block.ensures in
    let into : c.add_samples.new.into.items ≡ c.loop-samples.into.items ++ c.pass_block.new.block.items =
    c.add_samples.ensures ∙ ap (λ (l : List ℤ). c.loop-samples.into.items ++ l) c.as_slice.ensures.value in
    record {
      size = steps.0 ∙ inv.size;
      whole = rest_whole c.args.channels (length rest) (length piece) (length c.next.new.self.rest.now) c.requires.some inv.whole size steps.1.2 parts;
      frames = block_on hs c.args.channels n piece _ rest some is steps.1.0 c.loop-samples.into.items c.pass_block.new.block.items c.add_samples.new.into.items _ into made states ∙ inv.frames;
      states = block_states hs c.args.channels n piece _ rest some is steps.1.0 _ states ∙ inv.states;
      may = subst (λ (l : List Held). EachMayPass l (groups c.args.channels c.next.new.self.rest.now)) (sym states) (both_may hs c.args.channels n piece _ rest some is steps.1.0 inv.may).1;
    }

pub returns-clause-frames : goal.returns-clause-frames
returns-clause-frames g c =
    let hs : List Held = map (λ b. (goal.Stage-dyn g (b.vtable, b.value)).stage b.value) c.loop-samples.stages in
    let steps = c.in-None.ensures.steps in
    let inv = c.loop-samples.invariant in
    let rest = c.loop-samples.samples-iterator.rest.now in
    let none = no_group c.args.channels rest (omega (arith, steps.1.0, c.requires.some)) in
    sym (append-nil c.loop-samples.into.items) ∙ sym (ap (λ l. c.loop-samples.into.items ++ joined (each_passed hs l)) none) ∙ inv.frames

pub returns-clause-states : goal.returns-clause-states
returns-clause-states g c =
    let hs : List Held = map (λ b. (goal.Stage-dyn g (b.vtable, b.value)).stage b.value) c.loop-samples.stages in
    let steps = c.in-None.ensures.steps in
    let inv = c.loop-samples.invariant in
    let rest = c.loop-samples.samples-iterator.rest.now in
    states_left hs c.args.channels rest steps.1.0 ∙ inv.states
